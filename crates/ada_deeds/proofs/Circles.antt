-- A procedure calls itself exactly where its node is reached from those that call it.

use Rattle.std.proofs.Common.{◌≡◌, ℕ, ◌+◌, ◌-◌, ◌<◌, true, List, [], length, refl, sym, ap, ◌∙◌, subst, inl, inr, arith}
use Rattle.std.proofs.lemmas.Bool.{and_from, and_parts, cases_lt, eqb-true, eq-eqb}
use Rattle.std.specs.Prelude.{◌↔◌, slice_index_or, Some, None}
use Rattle.ada_deeds.specs.Graph.{node_count, node_of, IsGraph}
use Rattle.ada_deeds.specs.Rounds.{is_operation, is_callee, CallsOne, ComesTo, calls, goes_on, CallsItself, CalleesAreToldApart, ComingGoesOn, KnowsCalls}
use Rattle.ada_deeds.specs.declared.deed.Callee.{Callee}
use Rattle.ada_deeds.specs.declared.deed.Callee.TheVariants as callee
use Rattle.ada_deeds.specs.declared.deed.Deed.TheVariants as deed
use Rattle.ada_deeds.specs.declared.deed.Operation.{Operation}
use Rattle.ada_deeds.specs.declared.deed.Operation.TheVariants.{Initialize, Adjust, Finalize}
use Rattle.ada_deeds.specs.declared.rounds.Rounds.{Rounds}
use Rattle.ada_deeds.proofs.Numbering.{node_at, one_callee, is_below, has_node}
use Rattle.ada_program.specs.declared.program.ProcedureNo.{ProcedureNo}
use Rattle.ada_program.specs.ProgramForm.{ProgramForm}
use Rattle.ada_reach.specs.Graph.{HasEdge, Reaches, stays, goes, IsReached}
use Rattle.ada_reach.specs.View.{graph_of}
use Rattle.ada_reach.proofs.Reaching.{edge_first, end_node}

-- The test that two callees are one.

is_own : (o : Operation) → is_operation o o ≡ true
is_own Initialize = refl
is_own Adjust = refl
is_own Finalize = refl

one_operation : (o u : Operation) → is_operation o u ≡ true → o ≡ u
one_operation Initialize Initialize h = refl
one_operation Initialize Adjust h = absurd (cc h)
one_operation Initialize Finalize h = absurd (cc h)
one_operation Adjust Initialize h = absurd (cc h)
one_operation Adjust Adjust h = refl
one_operation Adjust Finalize h = absurd (cc h)
one_operation Finalize Initialize h = absurd (cc h)
one_operation Finalize Adjust h = absurd (cc h)
one_operation Finalize Finalize h = refl

pub is_same : (c : Callee) → is_callee c c ≡ true
is_same (callee.Procedure i) = eq-eqb i.0 i.0 refl
is_same (callee.Parts o t) = and_from (is_operation o o) _ (is_own o) (eq-eqb t.0 t.0 refl)

pub one_if : (c e : Callee) → is_callee c e ≡ true → c ≡ e
one_if (callee.Procedure i) (callee.Procedure j) h = ap (λ k. callee.Procedure (record { 0 = k })) (eqb-true i.0 j.0 h)
one_if (callee.Procedure i) (callee.Parts o t) h = absurd (cc h)
one_if (callee.Parts o t) (callee.Procedure i) h = absurd (cc h)
one_if (callee.Parts o t) (callee.Parts u v) h =
    let both = and_parts (is_operation o u) _ h in
    ap (λ x. callee.Parts x t) (one_operation o u both.0) ∙ ap (λ k. callee.Parts u (record { 0 = k })) (eqb-true t.0 v.0 both.1)

pub told_apart : CalleesAreToldApart
told_apart c e = ((λ h. one_if c e h), (λ h. subst (λ (z : Callee). is_callee c z ≡ true) h (is_same c)))

pub onward : ComingGoesOn
onward p a b c r (calls h) = goes_on r h
onward p a b c r (goes_on {between} s h) = goes_on (onward p a b between r s) h

-- A call may stand first as well as last.
pub first_call : (p : ProgramForm) (c between other : Callee) → CallsOne p c between → ComesTo p between other → ComesTo p c other
first_call p c between other h r = onward p c between other (calls h) r

-- What comes to something calls something.
pub calls_some : (p : ProgramForm) (c other : Callee) → ComesTo p c other → (e : Callee) × CallsOne p c e
calls_some p c other (calls {other = e} h) = (e, h)
calls_some p c other (goes_on {between} r k) = calls_some p c between r

-- Each node has its callee.
callee_at : (p t n : ℕ) → n < node_count p t → (c : Callee) × (node_of p t c ≡ Some n)
callee_at p t n lt = elim (cases_lt n p) [
  | inl here ↦ (callee.Procedure (record { 0 = n }), node_at p t (callee.Procedure (record { 0 = n })) n (here, refl))
  | inr behind ↦ elim (cases_lt n (p + t)) [
    | inl here ↦ (
      callee.Parts Initialize (record { 0 = n - p }),
      node_at p t (callee.Parts Initialize (record { 0 = n - p })) n (omega (arith, here, behind), omega (arith, behind)),
    )
    | inr more ↦ elim (cases_lt n (p + t + t)) [
      | inl here ↦ (
        callee.Parts Adjust (record { 0 = n - (p + t) }),
        node_at p t (callee.Parts Adjust (record { 0 = n - (p + t) })) n (omega (arith, here, more), omega (arith, more)),
      )
      | inr most ↦ (
        callee.Parts Finalize (record { 0 = n - (p + t + t) }),
        node_at p t (callee.Parts Finalize (record { 0 = n - (p + t + t) })) n (omega (arith, lt, most), omega (arith, most)),
      )
    ]
  ]
]

-- In the graph of calls of a program.
module _ (p : ProgramForm) (ps ts : ℕ) (graph : List (List ℕ)) (bodies : ps ≡ length p.bodies) (types : ts ≡ length p.types)
    (g : IsGraph p deed.Calls ps ts (node_count ps ts) graph []) where
  -- An edge is a call.
  edge_calls : (x y : ℕ) → HasEdge graph x y → (c other : Callee) → node_of ps ts c ≡ Some y → node_of ps ts other ≡ Some x → CallsOne p c other
  edge_calls x y e c other at there =
      g.calls x y e c at (is_callee other) (λ o here. subst (λ (z : Callee). is_callee other z ≡ true) (one_callee ps ts other o x there here) (is_same other))

  call_edge : (c other : Callee) → CallsOne p c other → (n x : ℕ) → node_of ps ts c ≡ Some n → node_of ps ts other ≡ Some x → HasEdge graph x n
  call_edge c other h n x at there = elim (g.all c n at (is_below ps ts c n at) (is_callee other) h) [
    | inl start ↦ let (k, lt, is) = start in absurd (omega (arith, lt))
    | inr one ↦ one.2 x (ap (node_of ps ts) (sym (one_if other one.0 one.1)) ∙ there)
  ]

  -- What calls something has a node.
  calls_at : (c other : Callee) → CallsOne p c other → (n : ℕ) × (node_of ps ts c ≡ Some n)
  calls_at c other h =
      let (n, at) = has_node p deed.Calls (is_callee other) c h in
      (n, ap (λ (x : ℕ). node_of x ts c) bodies ∙ ap (λ (x : ℕ). node_of (length p.bodies) x c) types ∙ at)

  -- What is reached from a node that calls another one comes to that.
  comes : (m start : ℕ) → HasEdge graph m start → (q : Callee) → node_of ps ts q ≡ Some m → (n : ℕ) → Reaches graph start n → (c : Callee) →
      node_of ps ts c ≡ Some n → ComesTo p c q
  comes m start edge q there n (stays is) c at = calls (edge_calls m start edge c q at there)
  comes m start edge q there n (goes {b} {c = d} r e is) c at =
      let node = end_node graph start b r in
      let (o, here) = callee_at ps ts b (let s = g.size in omega (arith, node, s)) in
      first_call p c o q (edge_calls b n e c o at here) (comes m start edge q there b r o here)

  -- What comes to a callee is reached from the nodes that call it.
  reached_from : (c q : Callee) → ComesTo p c q → (n m : ℕ) → node_of ps ts c ≡ Some n → node_of ps ts q ≡ Some m →
      IsReached graph (slice_index_or graph m []) n
  reached_from c q (calls h) n m at there =
      (n, call_edge c q h n m at there, stays (let below = is_below ps ts c n at in let s = g.size in omega (arith, below, s)))
  reached_from c q (goes_on {between} r k) n m at there =
      let (y, here) = calls_at between q k in
      let (start, has, way) = reached_from c between r n y at here in
      (y, call_edge between q k y m here there, edge_first graph y n (inr (start, has, way)))

  -- So a procedure calls itself exactly where its node is reached from those that call it.
  on_a_round : (q : Callee) (n : ℕ) → node_of ps ts q ≡ Some n → IsReached graph (slice_index_or graph n []) n ↔ ComesTo p q q
  on_a_round q n at = (
    (λ h. let (start, has, way) = h in comes n start has q at n way q at),
    (λ h. reached_from q q h n n at at),
  )

pub knows_rounds : (rounds : Rounds) (p : ProgramForm) → KnowsCalls rounds p → (procedure : ProcedureNo) (n : ℕ) →
    node_of rounds.nodes.procedures rounds.nodes.types (callee.Procedure procedure) ≡ Some n →
    IsReached (graph_of rounds.calls.callers.items) (slice_index_or (graph_of rounds.calls.callers.items) n []) n ↔ CallsItself p procedure
knows_rounds rounds p k procedure n at =
    on_a_round p rounds.nodes.procedures rounds.nodes.types (graph_of rounds.calls.callers.items) k.procedures k.types k.graph (callee.Procedure procedure) n at

-- What has no node calls nothing.
pub no_round : (rounds : Rounds) (p : ProgramForm) → KnowsCalls rounds p → (procedure : ProcedureNo) →
    node_of rounds.nodes.procedures rounds.nodes.types (callee.Procedure procedure) ≡ None → ¬ CallsItself p procedure
no_round rounds p k procedure none h =
    let (e, one) = calls_some p (callee.Procedure procedure) (callee.Procedure procedure) h in
    let (n, at) = calls_at p rounds.nodes.procedures rounds.nodes.types (graph_of rounds.calls.callers.items) k.procedures k.types k.graph (callee.Procedure procedure) e one in
    absurd (cc (sym none ∙ at))
