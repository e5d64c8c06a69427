-- Step by step.
use Rattle.ada_tracked.proofs.Staying.{stay_simple}
use Rattle.ada_tracked.proofs.laws.simple_bodies_stay_simple.Goals as goal

pub returns : goal.returns
returns c = stay_simple
