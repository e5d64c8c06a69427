use Rattle.ada_operations.proofs.Propagating.{obeying_propagates}
use Rattle.ada_operations.proofs.laws.obeying_propagates_nothing.Goals as goal

pub returns : goal.returns
returns c = obeying_propagates
