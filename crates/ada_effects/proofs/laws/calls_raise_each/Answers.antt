use Rattle.ada_effects.proofs.Programs as programs
use Rattle.ada_effects.proofs.laws.calls_raise_each.Goals as goal

pub returns : goal.returns
returns c = programs.calls_raise_each
