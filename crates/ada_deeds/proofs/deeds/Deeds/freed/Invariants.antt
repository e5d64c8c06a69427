use Rattle.std.proofs.Common.{◌≡◌, ℕ}
use Rattle.ada_deeds.specs.Table.{is_freed_among}
use Rattle.ada_effects.specs.Found.{has_number}
use Rattle.ada_deeds.proofs.deeds.Deeds.freed.Given as goal

-- those of the numbers so far are in the list
abbrev pub invariant-numbers : goal.invariant-numbers
invariant-numbers l = (t : ℕ) → has_number l.list.items t ≡ is_freed_among l.number l.self t
