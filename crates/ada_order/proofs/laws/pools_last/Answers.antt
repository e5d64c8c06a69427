-- By what a collection has where it is owned, and the stack of items.
use Rattle.ada_order.proofs.Orders as orders
use Rattle.ada_order.proofs.laws.pools_last.Goals as goal

pub returns-clause-last : goal.returns-clause-last
returns-clause-last c = orders.pools_last

pub returns-clause-taken : goal.returns-clause-taken
returns-clause-taken c = orders.pools_are_taken
