use Rattle.ada_operations.proofs.Proved.{quiet_obey}
use Rattle.ada_operations.proofs.laws.quiet_operations_obey.Goals as goal

pub returns : goal.returns
returns c = quiet_obey
