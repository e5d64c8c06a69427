use Rattle.std.proofs.Common.{◌≡◌, ◌++◌, map}
use Rattle.ada_resolve.specs.Items.{flattened}
use Rattle.ada_resolve.specs.View.{items_in, optional_items}
use Rattle.ada_resolve.proofs.items.Filling.into_items.Given as goal

-- what is left, behind what is done, makes the whole
abbrev pub invariant-loop-slot : goal.invariant-loop-slot
invariant-loop-slot l =
    items_in l.items ++ flattened (map optional_items l.slot-iterator.rest.items) ≡ flattened (map optional_items l.fn.self.slots.items)
