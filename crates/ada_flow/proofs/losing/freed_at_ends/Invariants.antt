use Rattle.std.proofs.Common.{◌≡◌, ℕ, ◌||◌, drop, map, Some}
use Rattle.ada_effects.specs.Effects.{endings_free}
use Rattle.ada_effects.specs.Found.{implicit_in}
use Rattle.ada_flow.specs.Told.{is_marked, type_number}
use Rattle.ada_flow.proofs.losing.freed_at_ends.Given as goal

-- what is marked so far, and what is left to mark, are all
abbrev pub invariant-types : goal.invariant-types
invariant-types l = (t : ℕ) →
    (is_marked l.marks (Some t) || endings_free (implicit_in l.implicit) (map type_number (drop l.one-index l.types)) t)
    ≡ endings_free (implicit_in l.implicit) (map type_number l.types) t
