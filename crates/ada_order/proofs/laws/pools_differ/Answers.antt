-- A pool's number is one more than how many are older.
use Rattle.ada_order.proofs.Orders as orders
use Rattle.ada_order.proofs.laws.pools_differ.Goals as goal

pub returns : goal.returns
returns c = orders.pools_differ
