use Rattle.ada_deeds.proofs.More.{callee_stays}
use Rattle.ada_deeds.proofs.laws.more_do_more.Goals as goal

pub returns : goal.returns
returns c = λ p d some others w callee h. callee_stays p d some others w callee h
