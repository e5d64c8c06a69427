use Rattle.ada_quiet.proofs.InUse.{quiet_in_use}
use Rattle.ada_quiet.proofs.laws.quiet_is_in_use.Goals as goal

pub returns : goal.returns
returns c = quiet_in_use
