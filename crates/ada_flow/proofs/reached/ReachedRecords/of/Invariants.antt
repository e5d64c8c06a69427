use Rattle.std.proofs.Common.{◌≡◌, ℕ, ◌<◌, length}
use Rattle.std.specs.List.{slice_get}
use Rattle.ada_effects.specs.Found.{implicit_in}
use Rattle.ada_flow.specs.Reached.{IsRow}
use Rattle.ada_program.specs.Kept.{types_in}
use Rattle.ada_flow.proofs.reached.ReachedRecords.of.Given as goal

-- the rows so far
abbrev pub invariant-accesses : goal.invariant-accesses
invariant-accesses l = record {
  size : length l.rows.items ≡ l.one-index;
  each : (u : ℕ) → u < l.one-index → IsRow (types_in l.types) ((implicit_in l.implicit).end_reaches u) (slice_get l.rows.items u);
}
