use Rattle.std.proofs.Common.{take}
use Rattle.ada_deeds.specs.Graph.{AddsCalls}
use Rattle.ada_reach.specs.View.{graph_of}
use Rattle.ada_deeds.proofs.callers.add_calls.Given as goal

-- the edges of the callees so far are added
abbrev pub invariant-callees : goal.invariant-callees
invariant-callees l = AddsCalls l.nodes.procedures l.nodes.types l.node (take l.callee-index l.callees) (graph_of l.fn.lists.items) (graph_of l.lists.items)
