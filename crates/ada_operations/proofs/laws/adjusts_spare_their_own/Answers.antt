use Rattle.ada_operations.proofs.Spared.{adjusts_spared}
use Rattle.ada_operations.proofs.laws.adjusts_spare_their_own.Goals as goal

pub returns : goal.returns
returns c = adjusts_spared
