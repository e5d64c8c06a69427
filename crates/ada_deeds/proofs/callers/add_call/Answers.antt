use Rattle.std.specs.Prelude.{Result, Ok, Err, OnOk, Some}
use Rattle.std.proofs.Common.{◌≡◌, ℕ, List, [], ◌∷◌, sym}
use Rattle.ada_deeds.specs.Graph.{node_of, AddsEdge, AddsCalls}
use Rattle.ada_deeds.specs.declared.deed.Callee.{Callee}
use Rattle.ada_deeds.proofs.Edges.{one_call}
use Rattle.ada_reach.specs.View.{graph_of}
use Rattle.ada_deeds.proofs.callers.add_call.Goals as goal

added : {X E : Type 0} (r : Result X E) (p t node : ℕ) (c : Callee) (x : ℕ) (before after : List (List ℕ)) → node_of p t c ≡ Some x →
    OnOk r (AddsEdge x node before after) → OnOk r (AddsCalls p t node (c ∷ []) before after)
added (Ok u) p t node c x before after at a = one_call p t node c x before after at a
added (Err e) p t node c x before after at a = a

-- the callee has a node
pub returns-in-Some : goal.returns-in-Some
returns-in-Some c =
    added c.add_edge.result c.args.nodes.procedures c.args.nodes.types c.args.node c.args.callee c.in-Some.from
    (graph_of c.args.lists.now.items) (graph_of c.add_edge.new.lists.items) (sym c.in-Some.ensures) c.add_edge.ensures
