use Rattle.std.proofs.Common.{◌≡◌, map}
use Rattle.std.specs.Prelude.{None}
use Rattle.std.proofs.Math.ListN.{replicate}
use Rattle.ada_resolve.specs.View.{optional_items}
use Rattle.ada_resolve.proofs.items.empty_slots.Given as goal

-- as many slots as the loop has counted, all empty
abbrev pub invariant-loop : goal.invariant-loop
invariant-loop l = map optional_items l.slots.items ≡ replicate l.counter None
