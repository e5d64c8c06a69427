use Rattle.ada_effects.proofs.Programs as programs
use Rattle.ada_effects.proofs.laws.untaken_passes.Goals as goal

pub returns : goal.returns
returns c = programs.untaken_passes
