use Rattle.ada_operations.proofs.Spared.{spared}
use Rattle.ada_operations.proofs.laws.ends_spare_their_own.Goals as goal

pub returns : goal.returns
returns c = spared
