-- Step by step.
use Rattle.ada_still.proofs.Example.{premise_is_needed}
use Rattle.ada_still.proofs.laws.premise_is_needed.Goals as goal

pub returns : goal.returns
returns c = premise_is_needed
