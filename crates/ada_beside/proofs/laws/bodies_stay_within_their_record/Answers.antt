-- Step by step.
use Rattle.ada_beside.proofs.Law.{stays_within}
use Rattle.ada_beside.proofs.laws.bodies_stay_within_their_record.Goals as goal

pub returns : goal.returns
returns c = stays_within
