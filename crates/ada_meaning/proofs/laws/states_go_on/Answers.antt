-- By the weight.
use Rattle.ada_meaning.proofs.Weight as weights
use Rattle.ada_meaning.proofs.laws.states_go_on.Goals as goal

pub returns : goal.returns
returns c = weights.states_go_on
