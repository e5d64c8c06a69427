-- The graph of calls, node by node, and what is reached in it.

use Rattle.std.proofs.Common.{◌≡◌, ◌⊎◌, ℕ, ◌+◌, ◌<◌, Bool, true, false, List, [], ◌∷◌, length, get_or, refl, sym, ap, ◌∙◌, subst, inl, inr, zero, suc, arith}
use Rattle.std.proofs.lemmas.Bool.{cases_lt, or_cases, or_left, or_right, eqb-true, eq-eqb}
use Rattle.std.specs.List.{Contains, list_any}
use Rattle.std.specs.Prelude.{Option, Some, None}
use Rattle.ada_deeds.specs.Does.{callee_does, is_deed_of, Does, does}
use Rattle.ada_deeds.specs.Graph.{node_count, node_of, starts_of, HasNoEdges, AddsCalls, AddsStart, AddsStarts, IsGraph, IsSearched, MarksReached, MarksDoers}
use Rattle.ada_deeds.specs.View.{sought, does_itself, does_found}
use Rattle.ada_deeds.specs.declared.calls.Calls.{Calls}
use Rattle.ada_deeds.specs.declared.deed.Callee.{Callee}
use Rattle.ada_deeds.specs.declared.deed.Deed.{Deed}
use Rattle.ada_deeds.specs.declared.deed.Deed.TheVariants as deed
use Rattle.ada_deeds.specs.declared.found.Found.{Found}
use Rattle.ada_deeds.specs.declared.search.Search.{Search}
use Rattle.ada_deeds.proofs.Numbering.{one_callee, is_below, has_node}
use Rattle.ada_effects.specs.Found.{has_number}
use Rattle.ada_program.specs.declared.program.TypeNo.{TypeNo}
use Rattle.ada_program.specs.ProgramForm.{ProgramForm}
use Rattle.ada_program.specs.WellFormed.{is_this}
use Rattle.ada_reach.specs.Graph.{HasEdge, Reaches, stays, goes, IsReached}
use Rattle.ada_reach.specs.View.{graph_of, IsMarked}

-- At first no node is done.
pub at_first : (p : ProgramForm) (d : Deed) (procedures types : ℕ) (graph : List (List ℕ)) (starts : List ℕ) → length graph ≡ node_count procedures types →
    HasNoEdges graph → ((n : ℕ) → ¬ Contains starts n) → IsGraph p d procedures types 0 graph starts
at_first p d procedures types graph starts size none no_starts = record {
  size = size;
  itself = λ n has c at known. absurd (no_starts n has);
  calls = λ x y e c at known h. absurd (none x y e);
  all = λ c n at lt known h. absurd (omega (arith, lt));
}

-- A test that a callee of a list passes.
any_contained : (known : Callee → Bool) (cs : List Callee) (c : Callee) → Contains cs c → known c ≡ true → list_any known cs ≡ true
any_contained known [] c (k, lt, is) h = absurd (omega (arith, lt))
any_contained known (e ∷ cs) c (zero, lt, is) h = or_left (known e) (list_any known cs) (ap known is ∙ h)
any_contained known (e ∷ cs) c (suc k, lt, is) h = or_right (known e) (list_any known cs) (any_contained known cs c (k, omega (arith, lt), is) h)

contained_any : (known : Callee → Bool) (cs : List Callee) → list_any known cs ≡ true → (c : Callee) × Contains cs c × (known c ≡ true)
contained_any known [] h = absurd (cc h)
contained_any known (c ∷ cs) h = elim (or_cases (known c) (list_any known cs) h) [
  | inl here ↦ (c, (0, omega arith, refl), here)
  | inr there ↦
      let (e, has, is) = contained_any known cs there in
      let (k, lt, at) = has in
      (e, (suc k, omega (arith, lt), at), is)
]

-- What is found, by its parts.

abbrev pub own : Found → Deed → Bool
own f d = does_itself f.itself f.freed.items f.followed.items d

itself_does : (f : Found) (d : Deed) (known : Callee → Bool) → own f d ≡ true → does_found f d known ≡ true
unfolding does_found
itself_does f d known h = or_left (own f d) (list_any known f.callees.items) h

called_does : (f : Found) (d : Deed) (known : Callee → Bool) (c : Callee) → Contains f.callees.items c → known c ≡ true → does_found f d known ≡ true
unfolding does_found
called_does f d known c has h = or_right (own f d) (list_any known f.callees.items) (any_contained known f.callees.items c has h)

parts_of_found : (f : Found) (d : Deed) (known : Callee → Bool) → does_found f d known ≡ true → (own f d ≡ true) ⊎ ((c : Callee) × Contains f.callees.items c × (known c ≡ true))
unfolding does_found
parts_of_found f d known h = elim (or_cases (own f d) (list_any known f.callees.items) h) [
  | inl is ↦ inl is
  | inr is ↦ inr (contained_any known f.callees.items is)
]

-- One node more.
pub one_more : (p : ProgramForm) (d : Deed) (procedures types node : ℕ) (graph after : List (List ℕ)) (starts more : List ℕ) (c : Callee) (f : Found) →
    IsGraph p d procedures types node graph starts → node_of procedures types c ≡ Some node →
    ((known : Callee → Bool) → does_found f d known ≡ callee_does p known d c) → AddsCalls procedures types node f.callees.items graph after →
    AddsStart (own f d) node starts more → IsGraph p d procedures types (node + 1) after more
one_more p d procedures types node graph after starts more c f g at found a s = record {
  size = a.size ∙ g.size;
  itself = itself;
  calls = calls;
  all = all;
}
  where
    -- the callee of the node
    is_it : (e : Callee) → node_of procedures types e ≡ Some node → c ≡ e
    is_it e there = one_callee procedures types c e node at there

    of_it : (e : Callee) (known : Callee → Bool) → node_of procedures types e ≡ Some node → does_found f d known ≡ true → callee_does p known d e ≡ true
    of_it e known there h = subst (λ (x : Callee). callee_does p known d x ≡ true) (is_it e there) (sym (found known) ∙ h)

    itself : (n : ℕ) → Contains more n → (e : Callee) → node_of procedures types e ≡ Some n → (known : Callee → Bool) → callee_does p known d e ≡ true
    itself n has e there known = elim (s.only n has) [
      | inl old ↦ g.itself n old e there known
      | inr new ↦ of_it e known (there ∙ ap (λ (m : ℕ). Some m) new.0) (itself_does f d known new.1)
    ]

    calls : (x y : ℕ) → HasEdge after x y → (e : Callee) → node_of procedures types e ≡ Some y → (known : Callee → Bool) →
        ((other : Callee) → node_of procedures types other ≡ Some x → known other ≡ true) → callee_does p known d e ≡ true
    calls x y e it there known h = elim (a.only x y e) [
      | inl old ↦ g.calls x y old it there known h
      | inr new ↦ of_it it known (there ∙ ap (λ (m : ℕ). Some m) new.0) (called_does f d known new.1.0 new.1.1 (h new.1.0 new.1.2))
    ]

    all : (e : Callee) (n : ℕ) → node_of procedures types e ≡ Some n → n < node + 1 → (known : Callee → Bool) → callee_does p known d e ≡ true →
        Contains more n ⊎ ((other : Callee) × (known other ≡ true) × ((x : ℕ) → node_of procedures types other ≡ Some x → HasEdge after x n))
    all e n there lt known h = elim (cases_lt n node) [
      | inl before ↦ elim (g.all e n there before known h) [
        | inl is ↦ inl (s.kept n is)
        | inr is ↦ inr (is.0, is.1, λ x at_x. a.kept x n (is.2 x at_x))
      ]
      | inr behind ↦
          let here : n ≡ node = omega (arith, lt, behind) in
          let there' : node_of procedures types e ≡ Some node = there ∙ ap (λ (m : ℕ). Some m) here in
          let k : callee_does p known d c ≡ true = subst (λ (x : Callee). callee_does p known d x ≡ true) (sym (is_it e there')) h in
          elim (parts_of_found f d known (found known ∙ k)) [
            | inl is ↦ inl (subst (Contains more) (sym here) (s.added is))
            | inr is ↦ inr (
              is.0,
              is.2,
              λ x at_x.
                  let below = is_below procedures types is.0 x at_x in
                  let size = g.size in
                  subst (λ (m : ℕ). HasEdge after x m) (sym here) (a.added is.0 x is.1 at_x (omega (arith, below, size))),
            )
          ]
    ]

-- Where a list of starts is one for each type, the deeds of each type have their starts.

of_one : (ts : List TypeNo) (node t : ℕ) (before after : List (List ℕ)) → AddsStarts ts node before after → t < length before →
    AddsStart (has_number ts t) node (get_or before t []) (get_or after t [])
of_one ts node t before after a lt = record {
  kept = λ n h. a.kept t n h;
  added = λ h. a.added t h lt;
  only = λ n h. a.only t n h;
}

starts_added : (f : Found) (node types : ℕ) (before after : Calls) → length (graph_of before.freeing.items) ≡ types → length (graph_of before.following.items) ≡ types →
    AddsStart f.itself node before.itself.items after.itself.items → AddsStarts f.freed.items node (graph_of before.freeing.items) (graph_of after.freeing.items) →
    AddsStarts f.followed.items node (graph_of before.following.items) (graph_of after.following.items) →
    (p : ProgramForm) → types ≡ length p.types → (d : Deed) → is_deed_of p d ≡ true → AddsStart (own f d) node (starts_of before d) (starts_of after d)
starts_added f node types before after free_size follow_size i fr fo p ts (deed.Raises e) of = i
starts_added f node types before after free_size follow_size i fr fo p ts (deed.Frees t) of =
    of_one f.freed.items node t.0 (graph_of before.freeing.items) (graph_of after.freeing.items) fr (let lt : t.0 < length p.types = grind (arith, of) in omega (arith, lt, ts, free_size))
starts_added f node types before after free_size follow_size i fr fo p ts (deed.Follows t) of =
    of_one f.followed.items node t.0 (graph_of before.following.items) (graph_of after.following.items) fo (let lt : t.0 < length p.types = grind (arith, of) in omega (arith, lt, ts, follow_size))
starts_added f node types before after free_size follow_size i fr fo p ts deed.Allocates of = i
starts_added f node types before after free_size follow_size i fr fo p ts deed.Calls of = record { kept = λ n h. h; added = λ is. absurd (cc is); only = λ n h. inl h }

-- One node more of a search.
pub one_more_searched : (p : ProgramForm) (s : Search) (procedures types node : ℕ) (before after : Calls) (c : Callee) (f : Found) → types ≡ length p.types →
    IsSearched p s procedures types node before → node_of procedures types c ≡ Some node →
    ((d : Deed) (known : Callee → Bool) → does_found f (sought s d) known ≡ callee_does p known (sought s d) c) →
    AddsCalls procedures types node f.callees.items (graph_of before.callers.items) (graph_of after.callers.items) →
    AddsStart f.itself node before.itself.items after.itself.items → AddsStarts f.freed.items node (graph_of before.freeing.items) (graph_of after.freeing.items) →
    AddsStarts f.followed.items node (graph_of before.following.items) (graph_of after.following.items) → IsSearched p s procedures types (node + 1) after
one_more_searched p s procedures types node before after c f ts is at found a i fr fo = record {
  freeing = fr.size ∙ is.freeing;
  following = fo.size ∙ is.following;
  graph = λ d of. one_more p (sought s d) procedures types node (graph_of before.callers.items) (graph_of after.callers.items)
      (starts_of before (sought s d)) (starts_of after (sought s d)) c f (is.graph d of) at (found d) a
      (starts_added f node types before after is.freeing is.following i fr fo p ts (sought s d) of);
}

-- A node is done, where its callee does nothing.

idle_done : (p : ProgramForm) (d : Deed) (procedures types node : ℕ) (graph : List (List ℕ)) (starts : List ℕ) (c : Callee) →
    IsGraph p d procedures types node graph starts → node_of procedures types c ≡ Some node → ((known : Callee → Bool) → callee_does p known d c ≡ false) →
    IsGraph p d procedures types (node + 1) graph starts
idle_done p d procedures types node graph starts c g at idle = record {
  size = g.size;
  itself = g.itself;
  calls = g.calls;
  all = λ e n there lt known h. elim (cases_lt n node) [
    | inl before ↦ g.all e n there before known h
    | inr behind ↦
        let here : n ≡ node = omega (arith, lt, behind) in
        let is : c ≡ e = one_callee procedures types c e node at (there ∙ ap (λ (m : ℕ). Some m) here) in
        absurd (cc (sym (idle known) ∙ ap (λ (x : Callee). callee_does p known d x) is ∙ h))
  ];
}

pub idle_searched : (p : ProgramForm) (s : Search) (procedures types node : ℕ) (calls : Calls) (c : Callee) → IsSearched p s procedures types node calls →
    node_of procedures types c ≡ Some node → ((d : Deed) (known : Callee → Bool) → callee_does p known d c ≡ false) → IsSearched p s procedures types (node + 1) calls
idle_searched p s procedures types node calls c is at idle = record {
  freeing = is.freeing;
  following = is.following;
  graph = λ d of. idle_done p (sought s d) procedures types node (graph_of calls.callers.items) (starts_of calls (sought s d)) c (is.graph d of) at (idle (sought s d));
}

-- At first no node of it is done.
pub searched_at_first : (p : ProgramForm) (s : Search) (procedures types : ℕ) (calls : Calls) → length (graph_of calls.callers.items) ≡ node_count procedures types →
    length (graph_of calls.freeing.items) ≡ types → length (graph_of calls.following.items) ≡ types → HasNoEdges (graph_of calls.callers.items) →
    HasNoEdges (graph_of calls.freeing.items) → HasNoEdges (graph_of calls.following.items) → calls.itself.items ≡ [] → IsSearched p s procedures types 0 calls
searched_at_first p s procedures types calls size free_size follow_size none no_frees no_follows no_itself = record {
  freeing = free_size;
  following = follow_size;
  graph = λ d of. at_first p (sought s d) procedures types (graph_of calls.callers.items) (starts_of calls (sought s d)) size none (no_starts (sought s d));
}
  where
    no_starts : (d : Deed) (n : ℕ) → ¬ Contains (starts_of calls d) n
    no_starts (deed.Raises e) n = λ has. let (k, lt, is) = has in let l = ap length no_itself in absurd (omega (arith, lt, l))
    no_starts (deed.Frees t) n = no_frees t.0 n
    no_starts (deed.Follows t) n = no_follows t.0 n
    no_starts deed.Allocates n = λ has. let (k, lt, is) = has in let l = ap length no_itself in absurd (omega (arith, lt, l))
    no_starts deed.Calls n = λ has. let (k, lt, is) = has in absurd (omega (arith, lt))

-- A callee at a node that is reached does the deed.
pub reached_does : (p : ProgramForm) (d : Deed) (procedures types done : ℕ) (graph : List (List ℕ)) (starts : List ℕ) → is_deed_of p d ≡ true → IsGraph p d procedures types done graph starts →
    (start n : ℕ) → Contains starts start → Reaches graph start n → (c : Callee) → node_of procedures types c ≡ Some n → Does p d c
reached_does p d procedures types done graph starts of g start n has (stays is) c at =
    does of (λ e. false) (λ e no. absurd (cc no)) (g.itself start has c at (λ e. false))
reached_does p d procedures types done graph starts of g start n has (goes {b} {c} r e is) it at =
    let known : Callee → Bool = λ x. is_this b (node_of procedures types x) in
    does of known
    (λ x h. reached_does p d procedures types done graph starts of g start b has r x (there b (node_of procedures types x) h))
    (g.calls b n e it at known (λ x h. here b (node_of procedures types x) h))
  where
    there : (b : ℕ) (o : Option ℕ) → is_this b o ≡ true → o ≡ Some b
    there b None h = absurd (cc h)
    there b (Some m) h = ap (λ (x : ℕ). Some x) (eqb-true m b h)

    here : (b : ℕ) (o : Option ℕ) → o ≡ Some b → is_this b o ≡ true
    here b None h = absurd (cc h)
    here b (Some m) h = eq-eqb m b (cc h)

-- What does the deed is reached, where all nodes are done.
pub does_reached : (p : ProgramForm) (d : Deed) (graph : List (List ℕ)) (starts : List ℕ) →
    IsGraph p d (length p.bodies) (length p.types) (node_count (length p.bodies) (length p.types)) graph starts → (c : Callee) → Does p d c →
    (n : ℕ) × (node_of (length p.bodies) (length p.types) c ≡ Some n) × IsReached graph starts n
does_reached p d graph starts g c (does of known each h) =
    let (n, at) = has_node p d known c h in
    let below = is_below (length p.bodies) (length p.types) c n at in
    let s = g.size in
    let node : n < length graph = omega (arith, below, s) in
    elim (g.all c n at below known h) [
      | inl is ↦ (n, at, (n, is, stays node))
      | inr is ↦
          let (m, there, reached) = does_reached p d graph starts g is.0 (each is.0 is.1) in
          let (start, has, r) = reached in
          (n, at, (start, has, goes r (is.2 m there) node))
    ]

-- Where nothing does a deed itself, nothing is reached, and no mark is wanted.
pub none_reached : (graph : List (List ℕ)) → MarksReached graph [] []
none_reached graph = record {
  marked = λ n (start, has, r). let (k, lt, is) = has in absurd (omega (arith, lt));
  only = λ n h. absurd (cc h);
}

-- So the nodes that are reached are those of the callees that do the deed.
pub reached_are_doers : (p : ProgramForm) (d : Deed) (procedures types : ℕ) (graph : List (List ℕ)) (starts : List ℕ) (marks : List Bool) →
    procedures ≡ length p.bodies → types ≡ length p.types → is_deed_of p d ≡ true →
    IsGraph p d procedures types (node_count procedures types) graph starts →
    MarksReached graph starts marks → MarksDoers p d procedures types marks
reached_are_doers p d procedures types graph starts marks ps ts of g reached = record {
  marked = λ c n at h.
      let (m, there, r) = does_reached p d graph starts graph_here c h in
      let same : m ≡ n = cc (sym there ∙ ap (λ (x : ℕ). node_of x (length p.types) c) (sym ps) ∙ ap (λ (x : ℕ). node_of procedures x c) (sym ts) ∙ at) in
      subst (IsMarked marks) same (reached.marked m r);
  only = λ c n at h.
      let (start, has, r) = reached.only n h in
      reached_does p d procedures types (node_count procedures types) graph starts of g start n has r c at;
}
  where
    graph_here : IsGraph p d (length p.bodies) (length p.types) (node_count (length p.bodies) (length p.types)) graph starts
    graph_here =
        subst (λ (x : ℕ). IsGraph p d x (length p.types) (node_count x (length p.types)) graph starts) ps
        (subst (λ (x : ℕ). IsGraph p d procedures x (node_count procedures x) graph starts) ts g)
