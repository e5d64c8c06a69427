use Rattle.ada_operations.proofs.Spared.{spared_newer}
use Rattle.ada_operations.proofs.laws.ends_spare_newer.Goals as goal

pub returns : goal.returns
returns c = spared_newer
