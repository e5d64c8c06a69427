use Rattle.ada_circles.proofs.Leading.{one_is_first}
use Rattle.ada_circles.proofs.laws.one_is_first.Goals as goal

pub returns : goal.returns
returns c = one_is_first
