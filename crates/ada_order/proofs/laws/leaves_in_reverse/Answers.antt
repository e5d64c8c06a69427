-- What goes at a leaving is of the newest item.
use Rattle.ada_order.proofs.Orders as orders
use Rattle.ada_order.proofs.laws.leaves_in_reverse.Goals as goal

pub returns : goal.returns
returns c = orders.in_reverse
