-- By the invariant.
use Rattle.ada_inside.proofs.Runs.{operations_nest}
use Rattle.ada_inside.proofs.laws.operations_nest_inside.Goals as goal

pub returns : goal.returns
returns c = operations_nest
