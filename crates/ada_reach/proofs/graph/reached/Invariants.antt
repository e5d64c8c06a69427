use Rattle.std.proofs.Common.{◌≡◌, ℕ, ◌-◌, ◌<◌, ◌≤◌, length, slice_index_or}
use Rattle.std.specs.List.{Contains}
use Rattle.ada_reach.specs.Graph.{HasEdge, IsReached}
use Rattle.ada_reach.specs.View.{graph_of, IsMarked, IsSearch}
use Rattle.ada_reach.proofs.graph.reached.Given as goal

-- What is marked is reached, the starts are marked, and so is each node to which an edge leads from one of those that are done.
abbrev pub invariant-loop-done : goal.invariant-loop-done
invariant-loop-done l = record {
  search : IsSearch l.search.marks.items l.search.found.items;
  same : length l.search.marks.items ≡ length l.graph;
  within : l.done ≤ length l.search.found.items;
  reached : (n : ℕ) → IsMarked l.search.marks.items n → IsReached (graph_of l.graph) l.starts n;
  starts : (n : ℕ) → Contains l.starts n → n < length l.graph → IsMarked l.search.marks.items n;
  closed : (k n : ℕ) → k < l.done → HasEdge (graph_of l.graph) (slice_index_or l.search.found.items k 0) n → n < length l.graph → IsMarked l.search.marks.items n;
}

abbrev pub decreases-loop-done : goal.decreases-loop-done
decreases-loop-done l = length l.graph - l.done
