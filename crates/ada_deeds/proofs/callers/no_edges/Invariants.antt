use Rattle.std.proofs.Common.{◌≡◌, length}
use Rattle.ada_deeds.specs.Graph.{HasNoEdges}
use Rattle.ada_reach.specs.View.{graph_of}
use Rattle.ada_deeds.proofs.callers.no_edges.Given as goal

abbrev pub invariant-nodes : goal.invariant-nodes
invariant-nodes l = record {
  size : length l.lists.items ≡ l.node;
  none : HasNoEdges (graph_of l.lists.items);
}
