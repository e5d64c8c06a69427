-- Step by step.
use Rattle.ada_tracked.proofs.Law.{runs_as_variables}
use Rattle.ada_tracked.proofs.laws.tracked_components_run_as_variables.Goals as goal

pub returns : goal.returns
returns c = runs_as_variables
