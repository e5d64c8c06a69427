use Rattle.ada_effects.proofs.Programs as programs
use Rattle.ada_effects.proofs.laws.others_take_all.Goals as goal

pub returns : goal.returns
returns c = programs.others_take_all
