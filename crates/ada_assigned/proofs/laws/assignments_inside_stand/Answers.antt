-- By the invariant.
use Rattle.ada_assigned.proofs.Runs.{assignments_stand}
use Rattle.ada_assigned.proofs.laws.assignments_inside_stand.Goals as goal

pub returns : goal.returns
returns c = assignments_stand
