use Rattle.std.proofs.Common.{◌≡◌, ℕ, ◌<◌, length}
use Rattle.ada_deeds.specs.Graph.{starts_of, MarksReached}
use Rattle.ada_deeds.specs.Rows.{deed_numbered, row_at}
use Rattle.ada_reach.specs.View.{graph_of}
use Rattle.ada_deeds.proofs.deeds.rows_of.Given as goal

-- the types so far have their marks
abbrev pub invariant-numbers : goal.invariant-numbers
invariant-numbers l = record {
  size : length l.rows.items ≡ l.number;
  rows : (n : ℕ) → n < l.number → MarksReached (graph_of l.calls.callers.items) (starts_of l.calls (deed_numbered l.kind n)) (row_at l.rows.items n);
}
