-- A master that has been left is not entered, and its number is not used again.
use Rattle.ada_order.proofs.Orders as orders
use Rattle.ada_order.proofs.laws.masters_are_left_once.Goals as goal

pub returns-clause-once : goal.returns-clause-once
returns-clause-once c = orders.left_once

pub returns-clause-nothing_after : goal.returns-clause-nothing_after
returns-clause-nothing_after c = orders.nothing_after_left
