-- By the invariant.
use Rattle.ada_assigned.proofs.Runs.{called_run_alone}
use Rattle.ada_assigned.proofs.laws.called_assignments_run_alone.Goals as goal

pub returns : goal.returns
returns c = called_run_alone
