use Rattle.ada_front.proofs.Whole.{whole_behind}
use Rattle.ada_front.proofs.laws.nothing_is_lost_behind.Goals as goal

pub returns : goal.returns
returns c = whole_behind
