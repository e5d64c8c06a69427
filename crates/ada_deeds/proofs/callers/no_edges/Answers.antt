use Rattle.std.proofs.Common.{◌≡◌, List, [], ◌∷◌, ◌++◌, length, sym, ap, ◌∙◌, subst, ℕ, arith}
use Rattle.std.proofs.lemmas.List.{map-append, length_push}
use Rattle.std.specs.Global.{Vec}
use Rattle.ada_deeds.specs.Graph.{HasNoEdges}
use Rattle.ada_deeds.proofs.Edges.{no_edges_more}
use Rattle.ada_reach.specs.View.{graph_of}
use Rattle.ada_deeds.proofs.callers.no_edges.Goals as goal

with_empty : (lists after : List (Vec ℕ)) (v : Vec ℕ) → after ≡ lists ++ v ∷ [] → v.items ≡ [] → HasNoEdges (graph_of lists) → HasNoEdges (graph_of after)
with_empty lists after v is empty none =
    let at : graph_of after ≡ graph_of lists ++ [] ∷ [] =
    ap graph_of is ∙ map-append (λ (x : Vec ℕ). x.items) lists (v ∷ []) ∙ ap (λ (xs : List ℕ). graph_of lists ++ xs ∷ []) empty in
    subst HasNoEdges (sym at) (no_edges_more (graph_of lists) none)

-- one more node has no edges
pub nodes-preserved : goal.nodes-preserved
nodes-preserved c = record {
  size = let i = ap length c.in_ok-push.ensures.items in let l = length_push c.nodes.lists.items c.new-edges.result in let s = c.nodes.invariant.size in omega (arith, i, l, s);
  none = with_empty c.nodes.lists.items c.push.new.self.items c.new-edges.result c.in_ok-push.ensures.items c.new-edges.ensures.items c.nodes.invariant.none;
}
