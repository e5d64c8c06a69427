-- Step by step.
use Rattle.ada_still.proofs.Beside.{one_collection}
use Rattle.ada_still.proofs.laws.own_types_have_one_collection.Goals as goal

pub returns : goal.returns
returns c = one_collection
