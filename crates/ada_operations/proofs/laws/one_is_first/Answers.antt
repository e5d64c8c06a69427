use Rattle.ada_operations.proofs.Proved.{one_first}
use Rattle.ada_operations.proofs.laws.one_is_first.Goals as goal

pub returns : goal.returns
returns c = one_first
