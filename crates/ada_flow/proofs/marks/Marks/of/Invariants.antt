use Rattle.std.proofs.Common.{◌≡◌, ℕ, ◌||◌, false, get_or, map, drop, Some}
use Rattle.ada_flow.specs.Flow.{is_among}
use Rattle.ada_flow.specs.Told.{type_number}
use Rattle.ada_flow.proofs.marks.Marks.of.Given as goal

-- what is marked so far, and what is left to mark, are all
abbrev pub invariant-types : goal.invariant-types
invariant-types l = (t : ℕ) →
    (get_or l.at.items t false || is_among (map type_number (drop l.one-index l.types)) (Some t)) ≡ is_among (map type_number l.types) (Some t)
