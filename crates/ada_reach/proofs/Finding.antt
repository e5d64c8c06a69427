-- What a search has found.

use Rattle.std.proofs.Common.{◌≡◌, ℕ, ◌+◌, ◌<◌, ◌≤◌, Bool, true, false, List, [], ◌∷◌, ◌++◌, length, get_or, set, take, sym, ap, ◌∙◌, subst, inl, inr, arith}
use Rattle.std.proofs.lemmas.Bool.{cases_lt, cases_eq}
use Rattle.std.proofs.lemmas.List.{length-map, length_push, get_or-map, get_or_default, get_or_past, get_or_read, get_or_append_left, get_or_push, get_or-set_same, get_or-set_other, take_more}
use Rattle.std.proofs.lemmas.List.Elements.{Contains-append_left, Contains-append_right, Contains-append_cases, Contains-push}
use Rattle.std.proofs.lemmas.List.Sums.{sum_by-set}
use Rattle.std.specs.Prelude.{if◌then◌else◌}
use Rattle.std.specs.Global.{Vec}
use Rattle.std.specs.List.{Contains, count_by, sum_by}
use Rattle.ada_reach.specs.Graph.{IsNode, HasEdge, stays, goes, IsReached}
use Rattle.ada_reach.specs.View.{graph_of, IsMarked, IsSearch, Adds}
use Rattle.ada_reach.proofs.Reaching.{lies_in}

-- What is marked has a mark.
pub has_mark : (marks : List Bool) (n : ℕ) → IsMarked marks n → n < length marks
has_mark marks n h = elim (cases_lt n (length marks)) [ inl lt ↦ lt | inr le ↦ absurd (cc (sym h ∙ get_or_past marks n false le)) ]

-- What stands in the list is a node.
pub is_found : (marks : List Bool) (found : List ℕ) (done node nodes : ℕ) → IsSearch marks found → done < length found → node ≡ get_or found done node → length marks ≡ nodes → node < nodes
is_found marks found done node nodes s lt is same =
    let at : node ≡ get_or found done 0 = get_or_read found done node lt is 0 in
    let m : node < length marks = has_mark marks node (subst (IsMarked marks) (sym at) (s.marked done lt)) in
    omega (arith, m, same)

-- A mark that is set leaves the others.
pub stays_marked : (marks : List Bool) (node n : ℕ) → IsMarked marks n → IsMarked (set marks node true) n
stays_marked marks node n h = elim (cases_eq n node) [
  | inl e ↦ subst (λ (m : ℕ). get_or (set marks node true) m false ≡ true) (sym e) (get_or-set_same marks node true false (subst (λ (m : ℕ). m < length marks) e (has_mark marks n h)))
  | inr ne ↦ get_or-set_other marks node n true false ne ∙ h
]

-- What a mark counts.
abbrev weight : Bool → ℕ
weight mark = if mark then 1 else 0

-- A mark that was read, and is not set.
pub is_fresh : (marks : List Bool) (node : ℕ) (mark : Bool) → node < length marks → mark ≡ get_or marks node mark → mark ≡ false → get_or marks node false ≡ false
is_fresh marks node mark lt is fresh = get_or_default marks node false mark lt ∙ sym is ∙ fresh

-- One node more.
pub one_more : (marks : List Bool) (found : List ℕ) (node : ℕ) → IsSearch marks found → node < length marks → get_or marks node false ≡ false → IsSearch (set marks node true) (found ++ node ∷ [])
one_more marks found node s lt fresh = record { marked = marked; listed = listed; once = once }
  where
    marked : (k : ℕ) → k < length (found ++ node ∷ []) → IsMarked (set marks node true) (get_or (found ++ node ∷ []) k 0)
    marked k less = elim (cases_lt k (length found)) [
      | inl before ↦ subst (IsMarked (set marks node true)) (sym (get_or_append_left found (node ∷ []) 0 k before)) (stays_marked marks node (get_or found k 0) (s.marked k before))
      | inr behind ↦
          let p = length_push found node in
          let e : length found ≡ k = omega (arith, less, behind, p) in
          subst (IsMarked (set marks node true)) (sym (get_or_push found node 0 k e)) (get_or-set_same marks node true false lt)
    ]

    listed : (n : ℕ) → IsMarked (set marks node true) n → Contains (found ++ node ∷ []) n
    listed n h = elim (cases_eq n node) [
      | inl e ↦ subst (Contains (found ++ node ∷ [])) (sym e) (Contains-push found node)
      | inr ne ↦ Contains-append_left found (node ∷ []) n (s.listed n (sym (get_or-set_other marks node n true false ne) ∙ h))
    ]

    once : length (found ++ node ∷ []) ≤ count_by (λ mark. mark) (set marks node true)
    once =
        let p = length_push found node in
        let c : sum_by weight (set marks node true) + weight (get_or marks node false) ≡ sum_by weight marks + weight true = sum_by-set weight marks node true false lt in
        let z : weight (get_or marks node false) ≡ weight false = ap weight fresh in
        let o = s.once in
        omega (arith, p, c, z, o)

-- What is added at once and then is added.
pub added_both : (xs ys : List ℕ) (m n o : List Bool) (f g h : List ℕ) → Adds xs m n f g → Adds ys n o g h → Adds (xs ++ ys) m o f h
added_both xs ys m n o f g h a b = record {
  same = b.same ∙ a.same;
  longer = let p = a.longer in let q = b.longer in omega (arith, p, q);
  stays = λ k lt. b.stays k (let p = a.longer in omega (arith, lt, p)) ∙ a.stays k lt;
  kept = λ k is. b.kept k (a.kept k is);
  added = λ k has lt. elim (Contains-append_cases xs ys k has) [
    | inl is ↦ b.kept k (a.added k is lt)
    | inr is ↦ b.added k is (let p = a.same in omega (arith, lt, p))
  ];
  only = λ k is. elim (b.only k is) [
    | inl before ↦ elim (a.only k before) [ inl old ↦ inl old | inr new ↦ inr (Contains-append_left xs ys k new) ]
    | inr new ↦ inr (Contains-append_right xs ys k new)
  ];
}

pub added_more : (nodes : List ℕ) (i d : ℕ) (m n o : List Bool) (f g h : List ℕ) → i < length nodes → Adds (take i nodes) m n f g → Adds (get_or nodes i d ∷ []) n o g h → Adds (take (i + 1) nodes) m o f h
added_more nodes i d m n o f g h lt a b = subst (λ (xs : List ℕ). Adds xs m o f h) (sym (take_more nodes i d lt)) (added_both (take i nodes) (get_or nodes i d ∷ []) m n o f g h a b)

-- What is true of the marks, where the nodes from the front of the list are done.
pub record IsDone (graph : List (List ℕ)) (starts : List ℕ) (marks : List Bool) (found : List ℕ) (done : ℕ) : Type 0 where
  pub same : length marks ≡ length graph
  pub reached : (n : ℕ) → IsMarked marks n → IsReached graph starts n
  pub has : (n : ℕ) → Contains starts n → n < length graph → IsMarked marks n
  pub closed : (k n : ℕ) → k < done → HasEdge graph (get_or found k 0) n → n < length graph → IsMarked marks n

-- At first the starts are found.
pub at_first : (graph : List (List ℕ)) (starts : List ℕ) (m n : List Bool) (f g : List ℕ) → length m ≡ length graph → f ≡ [] → IsSearch m f → Adds starts m n f g → IsDone graph starts n g 0
at_first graph starts m n f g same none s a = record {
  same = a.same ∙ same;
  reached = λ k is. elim (a.only k is) [
    | inl old ↦ let (i, lt, e) = subst (λ (xs : List ℕ). Contains xs k) none (s.listed k old) in absurd (omega (arith, lt))
    | inr new ↦ (k, new, stays (subst (λ (i : ℕ). k < i) (a.same ∙ same) (has_mark n k is)))
  ];
  has = λ k has lt. a.added k has (subst (λ (i : ℕ). k < i) (sym same) lt);
  closed = λ i k lt e node. absurd (omega (arith, lt));
}

-- The edges of the next node are followed.
pub one_done : (graph : List (List ℕ)) (starts : List ℕ) (m n : List Bool) (f g : List ℕ) (done node : ℕ) (edges : List ℕ) → IsSearch m f → IsDone graph starts m f done → done < length f → node ≡ get_or f done 0 → edges ≡ get_or graph node [] → Adds edges m n f g → IsDone graph starts n g (done + 1)
one_done graph starts m n f g done node edges s d lt at is a = record {
  same = a.same ∙ d.same;
  reached = reached;
  has = λ k has less. a.kept k (d.has k has less);
  closed = closed;
}
  where
    reached : (k : ℕ) → IsMarked n k → IsReached graph starts k
    reached k h = elim (a.only k h) [
      | inl old ↦ d.reached k old
      | inr new ↦
          let (start, has, r) = d.reached node (subst (IsMarked m) (sym at) (s.marked done lt)) in
          (start, has, goes r (subst (λ (xs : List ℕ). Contains xs k) is new) (subst (λ (i : ℕ). k < i) (a.same ∙ d.same) (has_mark n k h)))
    ]

    closed : (i k : ℕ) → i < done + 1 → HasEdge graph (get_or g i 0) k → k < length graph → IsMarked n k
    closed i k less e is_node = elim (cases_lt i done) [
      | inl before ↦ a.kept k (d.closed i k before (subst (λ (b : ℕ). HasEdge graph b k) (a.stays i (omega (arith, before, lt))) e) is_node)
      | inr behind ↦
          let here : i ≡ done = omega (arith, less, behind) in
          let b : get_or g i 0 ≡ node = ap (λ (j : ℕ). get_or g j 0) here ∙ a.stays done lt ∙ sym at in
          let e' : HasEdge graph node k = subst (λ (b : ℕ). HasEdge graph b k) b e in
          a.added k (subst (λ (xs : List ℕ). Contains xs k) (sym is) e') (subst (λ (i : ℕ). k < i) (sym d.same) is_node)
    ]

-- At last all that is reached is marked.
pub at_last : (graph : List (List ℕ)) (starts : List ℕ) (m : List Bool) (f : List ℕ) (done : ℕ) → IsSearch m f → IsDone graph starts m f done → length f ≤ done → (n : ℕ) → IsReached graph starts n → IsMarked m n
at_last graph starts m f done s d all n (start, has, r) = lies_in graph (IsMarked m) closed start n (λ is. d.has start has is) r
  where
    closed : (a b : ℕ) → IsMarked m a → HasEdge graph a b → IsNode graph b → IsMarked m b
    closed a b h e is =
        let (k, lt, at) = s.listed a h in
        d.closed k b (omega (arith, lt, all)) (subst (λ (x : ℕ). HasEdge graph x b) (sym (get_or_default f k 0 a lt ∙ at)) e) is

-- Graphs as vectors hold them.
pub as_many : (nodes : List (Vec ℕ)) → length (graph_of nodes) ≡ length nodes
as_many nodes = length-map nodes (λ (edges : Vec ℕ). edges.items)

pub edges_at : (nodes : List (Vec ℕ)) (n : ℕ) (v : Vec ℕ) → n < length nodes → v ≡ get_or nodes n v → v.items ≡ get_or (graph_of nodes) n []
edges_at nodes n v lt is = ap (λ (w : Vec ℕ). w.items) is ∙ sym (get_or-map (λ (w : Vec ℕ). w.items) nodes n v [] lt)
