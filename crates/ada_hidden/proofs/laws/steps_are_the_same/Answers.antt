-- Step by step.
use Rattle.ada_hidden.proofs.Law.{steps_are_the_same}
use Rattle.ada_hidden.proofs.laws.steps_are_the_same.Goals as goal

pub returns : goal.returns
returns c = steps_are_the_same
