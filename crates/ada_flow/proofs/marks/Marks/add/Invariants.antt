use Rattle.std.proofs.Common.{◌≡◌, ℕ, ◌||◌, drop, Some}
use Rattle.ada_effects.specs.Found.{has_number}
use Rattle.ada_flow.specs.Told.{is_marked}
use Rattle.ada_flow.proofs.marks.Marks.add.Given as goal

-- what is marked so far, and what is left to mark, are all
abbrev pub invariant-types : goal.invariant-types
invariant-types l = (t : ℕ) →
    (is_marked l.self (Some t) || has_number (drop l.one-index l.types) t) ≡ (is_marked l.fn.self (Some t) || has_number l.types t)
