-- By what no actual parameter breaks: none gives again what an earlier one gives.
use Rattle.ada_sound.proofs.Callees as callees
use Rattle.ada_sound.proofs.laws.one_variable_each.Goals as goal

pub returns : goal.returns
returns c = callees.none_is_given_twice
