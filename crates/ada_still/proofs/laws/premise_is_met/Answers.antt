-- Step by step.
use Rattle.ada_still.proofs.Example.{premise_is_met}
use Rattle.ada_still.proofs.laws.premise_is_met.Goals as goal

pub returns : goal.returns
returns c = premise_is_met
