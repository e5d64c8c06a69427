-- What is kept of each collection is the same: nothing, of a new one.
use Rattle.std.proofs.Common.{◌≡◌, ℕ, ◌+◌, ◌-◌, map, vec_len}
use Rattle.ada_interpreter.specs.Objects.{kept_of, kept_at}
use Rattle.ada_interpreter.proofs.shelves.make_shelves.Given as goal

abbrev pub invariant-shelves : goal.invariant-shelves
invariant-shelves l = (i : ℕ) → kept_at (map kept_of l.shelves.items) i ≡ kept_at (map kept_of l.initial.shelves.items) i

abbrev pub decreases-shelves : goal.decreases-shelves
decreases-shelves l = l.item + 1 - vec_len l.shelves
