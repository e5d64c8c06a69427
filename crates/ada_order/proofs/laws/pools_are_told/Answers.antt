-- By what each step does to the items of masters.
use Rattle.ada_order.proofs.Orders as orders
use Rattle.ada_order.proofs.laws.pools_are_told.Goals as goal

pub returns : goal.returns
returns c = orders.pools_are_told
