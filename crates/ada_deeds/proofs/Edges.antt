-- Edges that are added.

use Rattle.std.proofs.Common.{◌≡◌, ◌⊎◌, ℕ, zero, suc, ◌+◌, ◌<◌, ◌≤◌, ◌==◌, true, false, ◌||◌, List, [], ◌∷◌, ◌++◌, length, get_or, set, take, refl, sym, ap, ◌∙◌, subst, inl, inr, arith}
use Rattle.std.proofs.lemmas.Bool.{cases_lt, cases_eq, eqb-true, eq-eqb, or_cases, or_left, or_right}
use Rattle.std.proofs.lemmas.List.{length-set, length_push, get_or-set_same, get_or-set_other, get_or_push, get_or_append_left, get_or_past, map-set, take_more}
use Rattle.std.proofs.lemmas.List.Elements.{Contains-append_left, Contains-append_right, Contains-append_cases, Contains-push, Contains-push_cases}
use Rattle.std.proofs.lemmas.List.Folds.{list_any-append}
use Rattle.std.specs.Global.{Vec}
use Rattle.std.specs.List.{Contains}
use Rattle.std.specs.Prelude.{Some, None}
use Rattle.ada_deeds.specs.Graph.{node_of, HasNoEdges, AddsEdge, AddsCalls, AddsStarts}
use Rattle.ada_deeds.specs.declared.deed.Callee.{Callee}
use Rattle.ada_effects.specs.Found.{has_number}
use Rattle.ada_program.specs.declared.program.TypeNo.{TypeNo}
use Rattle.ada_reach.specs.Graph.{HasEdge}
use Rattle.ada_reach.specs.View.{graph_of}

edge_set : (graph : List (List ℕ)) (a b : ℕ) → a < length graph → AddsEdge a b graph (set graph a (get_or graph a [] ++ b ∷ []))
edge_set graph a b lt = record { size = length-set graph a new; kept = kept; added = λ h. added; only = only }
  where
    new : List ℕ
    new = get_or graph a [] ++ b ∷ []

    same : get_or (set graph a new) a [] ≡ new
    same = get_or-set_same graph a new [] lt

    kept : (x y : ℕ) → HasEdge graph x y → HasEdge (set graph a new) x y
    kept x y e = elim (cases_eq x a) [
      | inl is ↦
          let at : get_or graph x [] ≡ get_or graph a [] = ap (λ (i : ℕ). get_or graph i []) is in
          let here : Contains new y = Contains-append_left (get_or graph a []) (b ∷ []) y (subst (λ (xs : List ℕ). Contains xs y) at e) in
          subst (λ (xs : List ℕ). Contains xs y) (sym (ap (λ (i : ℕ). get_or (set graph a new) i []) is ∙ same)) here
      | inr other ↦ subst (λ (xs : List ℕ). Contains xs y) (sym (get_or-set_other graph a x new [] other)) e
    ]

    added : HasEdge (set graph a new) a b
    added = subst (λ (xs : List ℕ). Contains xs b) (sym same) (Contains-push (get_or graph a []) b)

    only : (x y : ℕ) → HasEdge (set graph a new) x y → HasEdge graph x y ⊎ ((x ≡ a) × (y ≡ b))
    only x y e = elim (cases_eq x a) [
      | inl is ↦
          let here : Contains new y = subst (λ (xs : List ℕ). Contains xs y) (ap (λ (i : ℕ). get_or (set graph a new) i []) is ∙ same) e in
          elim (Contains-push_cases (get_or graph a []) b y here) [
            | inl old ↦ inl (subst (λ (xs : List ℕ). Contains xs y) (sym (ap (λ (i : ℕ). get_or graph i []) is)) old)
            | inr new ↦ inr (is, sym new)
          ]
      | inr other ↦ inl (subst (λ (xs : List ℕ). Contains xs y) (get_or-set_other graph a x new [] other) e)
    ]

-- The edges of a node, as vectors hold them.
edges_at : (lists : List (Vec ℕ)) (a : ℕ) (v : Vec ℕ) → a < length lists → v ≡ get_or lists a v → v.items ≡ get_or (graph_of lists) a []
edges_at [] a v lt is = absurd (omega (arith, lt))
edges_at (w ∷ lists) zero v lt is = ap (λ (x : Vec ℕ). x.items) is
edges_at (w ∷ lists) (suc a) v lt is = edges_at lists a v (omega (arith, lt)) is

pub as_many : (lists : List (Vec ℕ)) → length (graph_of lists) ≡ length lists
as_many [] = refl
as_many (v ∷ lists) = ap (λ n. suc n) (as_many lists)

pub edge_pushed : (lists : List (Vec ℕ)) (a b : ℕ) (v w : Vec ℕ) → a < length lists → v ≡ get_or lists a v → w.items ≡ v.items ++ b ∷ [] →
    AddsEdge a b (graph_of lists) (graph_of (set lists a w))
edge_pushed lists a b v w lt is items =
    let new : w.items ≡ get_or (graph_of lists) a [] ++ b ∷ [] = items ∙ ap (λ (xs : List ℕ). xs ++ b ∷ []) (edges_at lists a v lt is) in
    let at : graph_of (set lists a w) ≡ set (graph_of lists) a (get_or (graph_of lists) a [] ++ b ∷ []) =
    map-set (λ (x : Vec ℕ). x.items) lists a w ∙ ap (set (graph_of lists) a) new in
    let n = as_many lists in
    subst (AddsEdge a b (graph_of lists)) (sym at) (edge_set (graph_of lists) a b (omega (arith, lt, n)))

-- No edge leads from a new node.
pub no_edges_more : (graph : List (List ℕ)) → HasNoEdges graph → HasNoEdges (graph ++ [] ∷ [])
no_edges_more graph none x y (k, lt, is) = elim (cases_lt x (length graph)) [
  | inl before ↦
      let at : get_or (graph ++ [] ∷ []) x [] ≡ get_or graph x [] = get_or_append_left graph ([] ∷ []) [] x before in
      none x y (subst (λ (xs : List ℕ). Contains xs y) at (k, lt, is))
  | inr behind ↦ let l = ap length (empty behind) in absurd (omega (arith, l, lt))
]
  where
    empty : length graph ≤ x → get_or (graph ++ [] ∷ []) x [] ≡ []
    empty behind = elim (cases_eq x (length graph)) [
      | inl is ↦ get_or_push graph [] [] x (sym is)
      | inr other ↦ let p = length_push graph [] in get_or_past (graph ++ [] ∷ []) x [] (omega (arith, p, behind, other))
    ]

-- The edge of one callee.
pub one_call : (p t node : ℕ) (c : Callee) (x : ℕ) (before after : List (List ℕ)) → node_of p t c ≡ Some x → AddsEdge x node before after →
    AddsCalls p t node (c ∷ []) before after
one_call p t node c x before after at a = record {
  size = a.size;
  kept = a.kept;
  added = λ e y has is lt.
      let same : c ≡ e = only e has in
      let here : x ≡ y = cc (sym at ∙ ap (node_of p t) same ∙ is) in
      subst (λ (z : ℕ). HasEdge after z node) here (a.added (subst (λ (z : ℕ). z < length before) (sym here) lt));
  only = λ y z e. elim (a.only y z e) [
    | inl old ↦ inl old
    | inr new ↦ inr (new.1, (c, (0, omega arith, refl), at ∙ ap (λ (n : ℕ). Some n) (sym new.0)))
  ];
}
  where
    only : (e : Callee) → Contains (c ∷ []) e → c ≡ e
    only e (zero, lt, is) = is
    only e (suc k, lt, is) = absurd (omega (arith, lt))

-- That of none.
pub no_call : (p t node : ℕ) (c : Callee) (graph : List (List ℕ)) → node_of p t c ≡ None → AddsCalls p t node (c ∷ []) graph graph
no_call p t node c graph at = record {
  size = refl;
  kept = λ x y e. e;
  added = λ e x has is lt. absurd (cc (sym at ∙ ap (node_of p t) (only e has) ∙ is));
  only = λ x y e. inl e;
}
  where
    only : (e : Callee) → Contains (c ∷ []) e → c ≡ e
    only e (zero, lt, is) = is
    only e (suc k, lt, is) = absurd (omega (arith, lt))

-- Those of none, and those of more.
pub none_called : (p t node : ℕ) (graph : List (List ℕ)) → AddsCalls p t node [] graph graph
none_called p t node graph = record {
  size = refl;
  kept = λ x y e. e;
  added = λ c x (k, lt, is) at less. absurd (omega (arith, lt));
  only = λ x y e. inl e;
}

both_called : (p t node : ℕ) (cs ds : List Callee) (f g h : List (List ℕ)) → AddsCalls p t node cs f g → AddsCalls p t node ds g h → AddsCalls p t node (cs ++ ds) f h
both_called p t node cs ds f g h a b = record {
  size = b.size ∙ a.size;
  kept = λ x y e. b.kept x y (a.kept x y e);
  added = λ c x has at lt. elim (Contains-append_cases cs ds c has) [
    | inl is ↦ b.kept x node (a.added c x is at lt)
    | inr is ↦ b.added c x is at (let s = a.size in omega (arith, lt, s))
  ];
  only = λ x y e. elim (b.only x y e) [
    | inl before ↦ elim (a.only x y before) [
      | inl old ↦ inl old
      | inr new ↦ inr (new.0, (new.1.0, Contains-append_left cs ds new.1.0 new.1.1, new.1.2))
    ]
    | inr new ↦ inr (new.0, (new.1.0, Contains-append_right cs ds new.1.0 new.1.1, new.1.2))
  ];
}

pub more_called : (p t node : ℕ) (cs : List Callee) (i : ℕ) (c : Callee) (f g h : List (List ℕ)) → i < length cs →
    AddsCalls p t node (take i cs) f g → AddsCalls p t node (get_or cs i c ∷ []) g h → AddsCalls p t node (take (i + 1) cs) f h
more_called p t node cs i c f g h lt a b =
    subst (λ (xs : List Callee). AddsCalls p t node xs f h) (sym (take_more cs i c lt)) (both_called p t node (take i cs) (get_or cs i c ∷ []) f g h a b)

-- Starts for the types of a list: for none, for one, and for more.
pub none_started : (node : ℕ) (graph : List (List ℕ)) → AddsStarts [] node graph graph
none_started node graph = record {
  size = refl;
  kept = λ t n h. h;
  added = λ t has lt. absurd (cc has);
  only = λ t n h. inl h;
}

one_started : (x : TypeNo) (node : ℕ) (before after : List (List ℕ)) → AddsEdge x.0 node before after → AddsStarts (x ∷ []) node before after
one_started x node before after a = record {
  size = a.size;
  kept = a.kept;
  added = λ t has lt.
      let same : x.0 ≡ t = here x t has in
      subst (λ (y : ℕ). HasEdge after y node) same (a.added (subst (λ (y : ℕ). y < length before) (sym same) lt));
  only = λ t n h. elim (a.only t n h) [
    | inl old ↦ inl old
    | inr new ↦ inr (new.1, or_left (x.0 == t) false (eq-eqb x.0 t (sym new.0)))
  ];
}
  where
    here : (x : TypeNo) (t : ℕ) → has_number (x ∷ []) t ≡ true → x.0 ≡ t
    here x t has = elim (or_cases (x.0 == t) false has) [ inl is ↦ eqb-true x.0 t is | inr none ↦ absurd (cc none) ]

both_started : (node : ℕ) (xs ys : List TypeNo) (f g h : List (List ℕ)) → AddsStarts xs node f g → AddsStarts ys node g h → AddsStarts (xs ++ ys) node f h
both_started node xs ys f g h a b = record {
  size = b.size ∙ a.size;
  kept = λ t n e. b.kept t n (a.kept t n e);
  added = λ t has lt. elim (or_cases (has_number xs t) (has_number ys t) (sym (both t) ∙ has)) [
    | inl is ↦ b.kept t node (a.added t is lt)
    | inr is ↦ b.added t is (let s = a.size in omega (arith, lt, s))
  ];
  only = λ t n e. elim (b.only t n e) [
    | inl before ↦ elim (a.only t n before) [
      | inl old ↦ inl old
      | inr new ↦ inr (new.0, both t ∙ or_left (has_number xs t) (has_number ys t) new.1)
    ]
    | inr new ↦ inr (new.0, both t ∙ or_right (has_number xs t) (has_number ys t) new.1)
  ];
}
  where
    both : (t : ℕ) → has_number (xs ++ ys) t ≡ (has_number xs t || has_number ys t)
    both t = list_any-append (λ (x : TypeNo). x.0 == t) xs ys

pub more_started : (node : ℕ) (xs : List TypeNo) (i : ℕ) (x : TypeNo) (f g h : List (List ℕ)) → i < length xs → AddsStarts (take i xs) node f g →
    AddsEdge (get_or xs i x).0 node g h → AddsStarts (take (i + 1) xs) node f h
more_started node xs i x f g h lt a b =
    subst (λ (ys : List TypeNo). AddsStarts ys node f h) (sym (take_more xs i x lt)) (both_started node (take i xs) (get_or xs i x ∷ []) f g h a (one_started (get_or xs i x) node g h b))
