use Rattle.ada_front.proofs.Whole.{left_before}
use Rattle.ada_front.proofs.laws.nothing_behind_is_left.Goals as goal

pub returns : goal.returns
returns c = left_before
