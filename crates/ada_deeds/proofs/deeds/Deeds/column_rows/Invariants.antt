use Rattle.std.proofs.Common.{◌≡◌, ℕ, ◌<◌, length}
use Rattle.std.specs.List.{slice_get}
use Rattle.ada_deeds.specs.Implicit.{record_at}
use Rattle.ada_deeds.specs.Rows.{does_in}
use Rattle.ada_deeds.specs.Table.{IsListed}
use Rattle.ada_effects.specs.Found.{has_number}
use Rattle.ada_program.specs.Kept.{types_in}
use Rattle.ada_deeds.proofs.deeds.Deeds.column_rows.Given as goal

-- the types so far have their rows
abbrev pub invariant-numbers : goal.invariant-numbers
invariant-numbers l = record {
  size : length l.rows.items ≡ l.number;
  rows : (u : ℕ) → u < l.number → IsListed (has_number l.used) (does_in l.self)
      (record_at (types_in l.program.types.items) u) l.column (slice_get l.rows.items u);
}
