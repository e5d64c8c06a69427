-- Step by step.
use Rattle.ada_still.proofs.Order.{in_order}
use Rattle.ada_still.proofs.laws.collections_stand_still.Goals as goal

pub returns : goal.returns
returns c = in_order
