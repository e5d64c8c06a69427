-- An item's number is that of the items below it, and a master's the next one where it was entered.
use Rattle.ada_order.proofs.Orders as orders
use Rattle.ada_order.proofs.laws.numbers_fall.Goals as goal

pub returns-clause-items : goal.returns-clause-items
returns-clause-items c = orders.items_fall

pub returns-clause-masters : goal.returns-clause-masters
returns-clause-masters c = orders.masters_fall

pub returns-clause-next : goal.returns-clause-next
returns-clause-next c = orders.below_next
