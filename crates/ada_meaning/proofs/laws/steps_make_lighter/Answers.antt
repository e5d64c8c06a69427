-- By the weight.
use Rattle.ada_meaning.proofs.Weight as weights
use Rattle.ada_meaning.proofs.laws.steps_make_lighter.Goals as goal

pub returns : goal.returns
returns c = record { lighter = weights.steps_make_lighter; nothing_called = weights.nothing_is_called }
