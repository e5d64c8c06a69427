-- What reaches what.

use Rattle.std.proofs.Common.{◌≡◌, ◌⊎◌, ℕ, zero, suc, List, [], ◌∷◌, refl, sym, subst, inl, inr, arith}
use Rattle.ada_reach.specs.Graph.{IsNode, HasEdge, Reaches, stays, goes, IsReached}
use Rattle.ada_reach.specs.Law.{HasStarts, IsClosed}

-- What is reached is a node, and so is what it is reached from.
pub end_node : (graph : List (List ℕ)) (a b : ℕ) → Reaches graph a b → IsNode graph b
end_node graph a n (stays is) = is
end_node graph a n (goes r e is) = is

pub start_node : (graph : List (List ℕ)) (a b : ℕ) → Reaches graph a b → IsNode graph a
start_node graph a n (stays is) = is
start_node graph a n (goes {b} {c} r e is) = start_node graph a b r

-- Edges lead from nodes.
pub edge_node : (graph : List (List ℕ)) (a b : ℕ) → HasEdge graph a b → IsNode graph a
edge_node [] a b (k, lt, is) = absurd (omega (arith, lt))
edge_node (edges ∷ graph) zero b e = omega arith
edge_node (edges ∷ graph) (suc a) b e = let lt = edge_node graph a b e in omega (arith, lt)

pub one_edge : (graph : List (List ℕ)) (a b : ℕ) → HasEdge graph a b → IsNode graph b → Reaches graph a b
one_edge graph a b e is = goes (stays (edge_node graph a b e)) e is

pub both : (graph : List (List ℕ)) (a m n : ℕ) → Reaches graph a m → Reaches graph m n → Reaches graph a n
both graph a m n before (stays is) = before
both graph a m n before (goes {b} {c} r e is) = goes (both graph a m b before r) e is

-- The first edge.
pub first_edge : (graph : List (List ℕ)) (a c : ℕ) → Reaches graph a c → (IsNode graph a × (a ≡ c)) ⊎ ((b : ℕ) × HasEdge graph a b × Reaches graph b c)
first_edge graph a n (stays is) = inl (is, refl)
first_edge graph a n (goes {b} {c} r e is) = elim (first_edge graph a b r) [
  | inl h ↦ inr (c, subst (λ (x : ℕ). HasEdge graph x c) (sym h.1) e, stays is)
  | inr h ↦ inr (h.0, h.1, goes h.2 e is)
]

pub edge_first : (graph : List (List ℕ)) (a c : ℕ) → (IsNode graph a × (a ≡ c)) ⊎ ((b : ℕ) × HasEdge graph a b × Reaches graph b c) → Reaches graph a c
edge_first graph a c (inl h) = subst (Reaches graph a) h.1 (stays h.0)
edge_first graph a c (inr (b, e, r)) = both graph a b c (one_edge graph a b e (start_node graph b c r)) r

-- What is reached lies in each set that has the starts and is closed.
pub lies_in : (graph : List (List ℕ)) (set : ℕ → Type 0) → IsClosed graph set → (a b : ℕ) → (IsNode graph a → set a) → Reaches graph a b → set b
lies_in graph set closed a n start (stays is) = start is
lies_in graph set closed a n start (goes {b} {c} r e is) = closed b c (lies_in graph set closed a b start r) e is

pub least : (graph : List (List ℕ)) (starts : List ℕ) (set : ℕ → Type 0) → HasStarts graph starts set → IsClosed graph set → (n : ℕ) → IsReached graph starts n → set n
least graph starts set has closed n (start, is, r) = lies_in graph set closed start n (λ node. has start is node) r
