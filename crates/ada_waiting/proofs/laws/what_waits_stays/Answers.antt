-- Step by step.
use Rattle.ada_waiting.proofs.Law.{what_waits_stays}
use Rattle.ada_waiting.proofs.laws.what_waits_stays.Goals as goal

pub returns : goal.returns
returns c = what_waits_stays
