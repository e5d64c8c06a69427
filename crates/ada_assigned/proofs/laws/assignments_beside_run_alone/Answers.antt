-- By the invariant.
use Rattle.ada_assigned.proofs.Runs.{beside_run_alone}
use Rattle.ada_assigned.proofs.laws.assignments_beside_run_alone.Goals as goal

pub returns : goal.returns
returns c = beside_run_alone
