use Rattle.ada_effects.proofs.Programs as programs
use Rattle.ada_effects.proofs.laws.something_passes.Goals as goal

pub returns : goal.returns
returns c = programs.something_passes
