use Rattle.ada_effects.proofs.Programs as programs
use Rattle.ada_effects.proofs.laws.same_means_equal.Goals as goal

pub returns : goal.returns
returns c = programs.same_means_equal
