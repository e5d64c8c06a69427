use Rattle.std.proofs.Common.{◌≡◌, ℕ, ◌||◌, drop}
use Rattle.ada_effects.specs.Found.{has_number}
use Rattle.ada_effects.proofs.freed.Freed.add_all.Given as goal

-- what is left tells of all
abbrev pub invariant-types : goal.invariant-types
invariant-types l = (t : ℕ) →
    (has_number l.self.list.items t || has_number (drop l.access-index l.types) t) ≡ (has_number l.fn.self.list.items t || has_number l.types t)
