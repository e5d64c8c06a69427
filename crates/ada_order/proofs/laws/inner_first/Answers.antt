-- By what each step does.
use Rattle.ada_order.proofs.Orders as orders
use Rattle.ada_order.proofs.laws.inner_first.Goals as goal

pub returns : goal.returns
returns c = orders.inner_first
