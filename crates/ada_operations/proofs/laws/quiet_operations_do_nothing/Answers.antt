use Rattle.ada_operations.proofs.Proved.{nothing_called}
use Rattle.ada_operations.proofs.laws.quiet_operations_do_nothing.Goals as goal

pub returns : goal.returns
returns c = nothing_called
