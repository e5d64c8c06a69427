use Rattle.std.proofs.Common.{ℕ}
use Rattle.std.specs.List.{Contains}
use Rattle.ada_operations.specs.View.{IsBegun}
use Rattle.ada_program.specs.Kept.{types_in}
use Rattle.ada_operations.proofs.late.begun_types.Given as goal

-- those of the types so far
abbrev pub invariant-types : goal.invariant-types
invariant-types l = record {
  all : (whole : ℕ) → IsBegun (types_in l.types) l.places.table.items l.place l.access whole → Contains l.begun.items whole;
  only : (whole : ℕ) → Contains l.begun.items whole → IsBegun (types_in l.types) l.places.table.items l.place l.access whole;
}
