use Rattle.std.proofs.Common.{◌≡◌, ℕ, ◌&&◌, ◌||◌, drop}
use Rattle.ada_deeds.specs.Rows.{does_in}
use Rattle.ada_deeds.specs.Table.{is_in}
use Rattle.ada_effects.specs.Found.{has_number}
use Rattle.ada_deeds.proofs.deeds.Deeds.access_types.Given as goal

-- those found so far, and those of what is left, are all
abbrev pub invariant-types : goal.invariant-types
invariant-types l = (t : ℕ) →
    (has_number l.list.items t || (has_number (drop l.access-index l.used) t && is_in (does_in l.self) l.record_type l.column t))
    ≡ (has_number l.used t && is_in (does_in l.self) l.record_type l.column t)
