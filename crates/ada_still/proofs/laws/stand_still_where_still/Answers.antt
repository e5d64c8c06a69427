-- Step by step.
use Rattle.ada_still.proofs.Law.{stand_still}
use Rattle.ada_still.proofs.laws.stand_still_where_still.Goals as goal

pub returns : goal.returns
returns c = stand_still
