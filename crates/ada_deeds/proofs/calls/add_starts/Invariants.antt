use Rattle.std.proofs.Common.{take}
use Rattle.ada_deeds.specs.Graph.{AddsStarts}
use Rattle.ada_reach.specs.View.{graph_of}
use Rattle.ada_deeds.proofs.calls.add_starts.Given as goal

-- the node is listed for the types so far
abbrev pub invariant-types : goal.invariant-types
invariant-types l = AddsStarts (take l.number-index l.types) l.node (graph_of l.fn.lists.items) (graph_of l.lists.items)
