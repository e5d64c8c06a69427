-- Laws of order, of any run of any program, as they are used here.

use Rattle.std.specs.Prelude.{ℤ, List, All, AllPairs}
use Rattle.ada_program.specs.declared.program.Program.{Program}
use Rattle.ada_meaning.specs.Named.{State}
use Rattle.ada_meaning.specs.Run.{Event, Choice, Step, Run, first_state}
use Rattle.ada_meaning.specs.Law.{InReverseOrder, items_of, Falls, MastersFall, OwnTwoPools, IsDeclaredPool, LeavesInnermost}
use Rattle.ada_order.specs.Masters.{HaveTheirPools}
use Rattle.ada_order.proofs.Orders as orders

-- At the leaving of a master items go in reverse order of their creation.
pub in_reverse : (program : Program) (input : List ℤ) (events : List Event) (last : State) → Run program (first_state program input) events last → AllPairs InReverseOrder events
in_reverse program input events last run = orders.in_reverse program input events last run

-- Only the innermost master is being left.
pub inner_first : (program : Program) (input : List ℤ) (events : List Event) (before : State) (choice : Choice) (event : Event) (after : State) → Run program (first_state program input) events before → Step program before choice event after → LeavesInnermost event before.masters
inner_first program input events before choice event after run step = orders.inner_first program input events before after choice event run step

-- Numbers fall along the masters that are entered.
pub masters_fall : (program : Program) (input : List ℤ) (events : List Event) (last : State) → Run program (first_state program input) events last → AllPairs MastersFall last.masters
masters_fall program input events last run = orders.masters_fall program input events last run

-- Each open collection has the pool of its access type, which was created before it.
pub pools_last : (program : Program) (input : List ℤ) (events : List Event) (last : State) → Run program (first_state program input) events last → HaveTheirPools program.types.items (items_of last.masters)
pools_last program input events last run = orders.pools_last program input events last run

-- No two pools that exist have one number, and none has that of the standard pool.
pub pools_differ : (program : Program) (input : List ℤ) (events : List Event) (last : State) → Run program (first_state program input) events last → AllPairs OwnTwoPools (items_of last.masters) × All IsDeclaredPool (items_of last.masters)
pools_differ program input events last run = orders.pools_differ program input events last run

-- Numbers fall along the items of the masters that are entered.
pub items_fall : (program : Program) (input : List ℤ) (events : List Event) (last : State) → Run program (first_state program input) events last → AllPairs Falls (items_of last.masters)
items_fall program input events last run = orders.items_fall program input events last run
