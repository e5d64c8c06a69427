-- The operations that a part has specified: how many of them wait for their bodies, and that none does behind them.

use Rattle.std.proofs.Common.{◌≡◌, ◌∙◌, ℕ, ◌+◌, ◌<◌, ◌≤◌, Bool, true, false, cond, List, [], ◌∷◌, length, refl, sym, ap, subst, arith, eqb, eqb-true, eq-eqb}
use Rattle.std.specs.Prelude.{Option, Some, None, is_some}
use Rattle.ada_tree.specs.Declarations.{HeadTree}
use Rattle.ada_tree.specs.Names.{Ident}
use Rattle.ada_program.specs.declared.program.ProcedureNo.{ProcedureNo}
use Rattle.ada_program.specs.ProgramForm.{TypeForm}
use Rattle.ada_resolve.specs.declared.primitives.Operation.{Operation}
use Rattle.ada_resolve.specs.declared.primitives.Operation.TheVariants.{Initialize, Adjust, Finalize}
use Rattle.ada_resolve.specs.Known.{Known, Specifications}
use Rattle.ada_resolve.specs.Primitives.{answered, overrider, specified_more}
use Rattle.ada_resolve.specs.Specifications.{with_specification}
use Rattle.ada_resolve.specs.Naming.{Context, Place, Specification, Overriding}
use Rattle.ada_resolve.specs.Reading.{HaveBodies, IsHeadRead, behind_body, formal_among, is_named_alike, is_this_operation, overridden_behind, procedure_among, with_specified}
use Rattle.ada_resolve.proofs.WellFormed.Tables.{both_parts, first_part, past_none, second_part}
use Rattle.ada_resolve.proofs.Agreeing.{Agrees}
use Rattle.ada_resolve.proofs.Operating.{alike_same, none_chosen, overrider_in}

-- this operation of this type
alike_self : (o : Operation) → is_named_alike o o ≡ true
alike_self Initialize = refl
alike_self Adjust = refl
alike_self Finalize = refl

this_self : (o : Operation) (t : ℕ) → is_this_operation o o t t ≡ true
this_self o t = both_parts (is_named_alike o o) (eqb t t) (alike_self o) (eq-eqb t t refl)

this_same : (a b : Operation) (t u : ℕ) → is_this_operation a b t u ≡ true → (a ≡ b) × (t ≡ u)
this_same a b t u e =
    (alike_same a b (first_part (is_named_alike a b) (eqb t u) e), eqb-true t u (second_part (is_named_alike a b) (eqb t u) e))

other_off : (a b : Operation) (t u : ℕ) → is_this_operation a b t u ≡ false → is_this_operation b a u t ≡ false
other_off a b t u off = by_test (is_this_operation b a u t) refl
  where
    by_test : (c : Bool) → is_this_operation b a u t ≡ c → c ≡ false
    by_test false is = refl
    by_test true is =
        let same = this_same b a u t is in
        let on : is_this_operation a b t u ≡ true = subst (λ (x : Operation). is_this_operation a x t u ≡ true) (sym same.0) (subst (λ (n : ℕ). is_this_operation a a t n ≡ true) (sym same.1) (this_self a t)) in
        absurd (cc (on, off))

-- how many wait for their bodies
abbrev pub waits_if : Option ProcedureNo → ℕ → ℕ
waits_if None n = n + 1
waits_if (Some p) n = n

abbrev pub waiting : List Overriding → List Specification → ℕ
waiting os [] = 0
waiting os (s ∷ ss) = waits_if (procedure_among s.operation s.record_type os) (waiting os ss)

-- none of them is specified twice
abbrev pub AreApart : List Specification → Type 0
AreApart [] = Unit {0}
AreApart (s ∷ ss) = (formal_among s.operation s.record_type ss ≡ None) × AreApart ss

some_not_none : {X : Type 0} (o : Option X) → is_some o ≡ true → o ≡ None → ⊥
some_not_none None some none = cc some
some_not_none (Some x) some none = cc none

has_first : (b : Bool) (x : List ℕ) (o : Option (List ℕ)) → is_some o ≡ true → is_some (cond b (Some x) o) ≡ true
has_first true x o e = refl
has_first false x o e = e

-- where none waits, each has its body
bodied : (os : List Overriding) (ss : List Specification) → waiting os ss ≡ 0 → (o : Operation) (t : ℕ) → is_some (formal_among o t ss) ≡ true → procedure_among o t os ≡ None → ⊥
bodied os [] none o t is open_so = cc is
bodied os (s ∷ ss) none o t is open_so =
    by_this (is_this_operation o s.operation t s.record_type) refl is (λ rest there. bodied os ss rest o t there open_so)
  where
    own_waits : (x : Option ProcedureNo) (n : ℕ) → x ≡ None → waits_if x n ≡ 0 → ⊥
    own_waits None n e zero_so = omega (arith, zero_so)
    own_waits (Some p) n e zero_so = cc e

    rest_none : (x : Option ProcedureNo) (n : ℕ) → waits_if x n ≡ 0 → n ≡ 0
    rest_none None n e = omega (arith, e)
    rest_none (Some p) n e = e

    by_this : (b : Bool) → is_this_operation o s.operation t s.record_type ≡ b → is_some (cond b (Some s.formal) (formal_among o t ss)) ≡ true → (waiting os ss ≡ 0 → is_some (formal_among o t ss) ≡ true → ⊥) → ⊥
    by_this true on is further =
        let same = this_same o s.operation t s.record_type on in
        let own : procedure_among s.operation s.record_type os ≡ None =
        subst (λ (x : Operation). procedure_among x s.record_type os ≡ None) same.0 (subst (λ (n : ℕ). procedure_among o n os ≡ None) same.1 open_so) in
        own_waits (procedure_among s.operation s.record_type os) (waiting os ss) own none
    by_this false off is further = further (rest_none (procedure_among s.operation s.record_type os) (waiting os ss) none) is

-- those of these operations that have bodies have the same ones
abbrev pub AreAlike : List Specification → (os ns : List Overriding) → Type 0
AreAlike ss os ns = (o : Operation) (t : ℕ) → is_some (formal_among o t ss) ≡ true → procedure_among o t ns ≡ procedure_among o t os

alike_first : (s : Specification) (ss : List Specification) (os ns : List Overriding) → AreAlike (s ∷ ss) os ns → procedure_among s.operation s.record_type ns ≡ procedure_among s.operation s.record_type os
alike_first s ss os ns w =
    w s.operation s.record_type (ap (λ (b : Bool). is_some (cond b (Some s.formal) (formal_among s.operation s.record_type ss))) (this_self s.operation s.record_type))

alike_rest : (s : Specification) (ss : List Specification) (os ns : List Overriding) → AreAlike (s ∷ ss) os ns → AreAlike ss os ns
alike_rest s ss os ns w o t is = w o t (has_first (is_this_operation o s.operation t s.record_type) s.formal (formal_among o t ss) is)

same_waiting : (os ns : List Overriding) (ss : List Specification) → AreAlike ss os ns → waiting ns ss ≡ waiting os ss
same_waiting os ns [] w = refl
same_waiting os ns (s ∷ ss) w =
    ap (λ (x : Option ProcedureNo). waits_if x (waiting ns ss)) (alike_first s ss os ns w) ∙
    ap (λ (n : ℕ). waits_if (procedure_among s.operation s.record_type os) n) (same_waiting os ns ss (alike_rest s ss os ns w))

-- a body takes one of them
taken : (os ns : List Overriding) (o : Operation) (t : ℕ) (n : ProcedureNo) (ss : List Specification) → AreApart ss → is_some (formal_among o t ss) ≡ true → procedure_among o t os ≡ None → AreAlike ss os ns → waiting (record { operation = o; record_type = t; procedure = n } ∷ ns) ss + 1 ≡ waiting os ss
taken os ns o t n [] apart is none w = absurd (cc is)
taken os ns o t n (s ∷ ss) apart is none w =
    by_this (is_this_operation o s.operation t s.record_type) refl is (λ there. taken os ns o t n ss apart.1 there none (alike_rest s ss os ns w))
  where
    all : List Overriding
    all = record { operation = o; record_type = t; procedure = n } ∷ ns

    -- behind it none is of this operation of this type
    others : (o ≡ s.operation) × (t ≡ s.record_type) → AreAlike ss os all
    others same a u there = by_test (is_this_operation a o u t) refl
      where
        by_test : (b : Bool) → is_this_operation a o u t ≡ b → cond b (Some n) (procedure_among a u ns) ≡ procedure_among a u os
        by_test true on =
            let one = this_same a o u t on in
            let not_there : formal_among a u ss ≡ None =
            subst (λ (x : Operation). formal_among x u ss ≡ None) (sym (one.0 ∙ same.0)) (subst (λ (i : ℕ). formal_among s.operation i ss ≡ None) (sym (one.1 ∙ same.1)) apart.0) in
            absurd (some_not_none (formal_among a u ss) there not_there)
        by_test false off = alike_rest s ss os ns w a u there

    first_some : (x : Option ProcedureNo) (a b : ℕ) → x ≡ Some n → a ≡ b → waits_if x a + 1 ≡ waits_if None b
    first_some None a b e same = absurd (cc e)
    first_some (Some p) a b e same = ap (λ (i : ℕ). i + 1) same

    one_less : (x : Option ProcedureNo) (a b : ℕ) → a + 1 ≡ b → waits_if x a + 1 ≡ waits_if x b
    one_less None a b same = ap (λ (i : ℕ). i + 1) same
    one_less (Some p) a b same = same

    by_this : (b : Bool) → is_this_operation o s.operation t s.record_type ≡ b → is_some (cond b (Some s.formal) (formal_among o t ss)) ≡ true → (is_some (formal_among o t ss) ≡ true → waiting all ss + 1 ≡ waiting os ss) → waiting all (s ∷ ss) + 1 ≡ waiting os (s ∷ ss)
    by_this true on is further =
        let same = this_same o s.operation t s.record_type on in
        let own : procedure_among s.operation s.record_type os ≡ None =
        subst (λ (x : Operation). procedure_among x s.record_type os ≡ None) same.0 (subst (λ (i : ℕ). procedure_among o i os ≡ None) same.1 none) in
        let turned : is_this_operation s.operation o s.record_type t ≡ true =
        subst (λ (x : Operation). is_this_operation s.operation x s.record_type t ≡ true) (sym same.0)
        (subst (λ (i : ℕ). is_this_operation s.operation s.operation s.record_type i ≡ true) (sym same.1) (this_self s.operation s.record_type)) in
        let now : procedure_among s.operation s.record_type all ≡ Some n = ap (λ (b : Bool). cond b (Some n) (procedure_among s.operation s.record_type ns)) turned in
        first_some (procedure_among s.operation s.record_type all) (waiting all ss) (waiting os ss) now (same_waiting os all ss (others same)) ∙
        ap (λ (x : Option ProcedureNo). waits_if x (waiting os ss)) (sym own)
    by_this false off is further =
        let turned = other_off o s.operation t s.record_type off in
        let now : procedure_among s.operation s.record_type all ≡ procedure_among s.operation s.record_type os =
        ap (λ (b : Bool). cond b (Some n) (procedure_among s.operation s.record_type ns)) turned ∙ alike_first s ss os ns w in
        ap (λ (x : Option ProcedureNo). waits_if x (waiting all ss) + 1) now ∙
        one_less (procedure_among s.operation s.record_type os) (waiting all ss) (waiting os ss) (further is)

-- as many as is known wait for their bodies
pub record Waits (k : Known) (place : Place) : Type 0 where
  pub count : waiting place.overridden place.specified ≡ k.here.specified.awaited
  pub apart : AreApart place.specified
  pub below : (o : Operation) (t : ℕ) → is_some (formal_among o t place.specified) ≡ true → t < place.types

-- where types go on, none of the part has a body yet
pub record Early (k : Known) (place : Place) : Type 0 where
  pub waits : Waits k place
  pub fresh : (o : Operation) (t : ℕ) → place.first_type ≤ t → procedure_among o t place.overridden ≡ None

-- where a part begins
none_past : (types : List TypeForm) (o : Operation) (t : ℕ) → length types ≤ t → overrider o types t ≡ None
unfolding overrider
none_past types o t past = ap (λ (x : Option TypeForm). overrider_in o x) (past_none types t past) ∙ none_chosen o

nothing_specified : (ss : List Specification) → ((o : Operation) (t : ℕ) → formal_among o t ss ≡ None) → ss ≡ []
nothing_specified [] w = refl
nothing_specified (s ∷ ss) w =
    let some : formal_among s.operation s.record_type (s ∷ ss) ≡ Some s.formal = ap (λ (b : Bool). cond b (Some s.formal) (formal_among s.operation s.record_type ss)) (this_self s.operation s.record_type) in
    absurd (not_both (sym some ∙ w s.operation s.record_type))
  where
    not_both : Some s.formal ≡ None → ⊥
    not_both e = cc e

pub early_first : (k : Known) (place : Place) → Agrees k place → k.here.first_type ≡ length k.types → k.here.specified.awaited ≡ 0 → ((o : Operation) (t : ℕ) → formal_among o t place.specified ≡ None) → Early k place
early_first k place w first none nothing =
    let is = nothing_specified place.specified nothing in
    record {
      waits = record {
        count = ap (λ (ss : List Specification). waiting place.overridden ss) is ∙ sym none;
        apart = subst (λ (ss : List Specification). AreApart ss) (sym is) tt;
        below = λ o t there. absurd (some_not_none (formal_among o t place.specified) there (nothing o t));
      };
      fresh = λ o t past.
          let from = w.first_type in
          sym (w.overridden o t) ∙ none_past k.types o t (omega (arith, past, from, first));
    }

-- all else that is declared leaves them
pub waits_on : (k m : Known) (place next : Place) → next.specified ≡ place.specified → next.overridden ≡ place.overridden → place.types ≤ next.types → m.here.specified ≡ k.here.specified → Waits k place → Waits m next
waits_on k m place next specified overridden types known w = record {
  count = ap (λ (os : List Overriding). waiting os next.specified) overridden ∙ (ap (λ (ss : List Specification). waiting place.overridden ss) specified ∙
      (w.count ∙ ap (λ (ss : Specifications). ss.awaited) (sym known)));
  apart = subst (λ (ss : List Specification). AreApart ss) (sym specified) w.apart;
  below = λ o t is.
      let least = w.below o t (ap (λ (ss : List Specification). is_some (formal_among o t ss)) (sym specified) ∙ is) in
      omega (arith, least, types);
}

pub early_on : (k m : Known) (place next : Place) → next.specified ≡ place.specified → next.overridden ≡ place.overridden → next.first_type ≡ place.first_type → place.types ≤ next.types → m.here.specified ≡ k.here.specified → Early k place → Early m next
early_on k m place next specified overridden first types known e = record {
  waits = waits_on k m place next specified overridden types known e.waits;
  fresh = λ o t from. ap (λ (os : List Overriding). procedure_among o t os) overridden ∙ e.fresh o t (subst (λ (n : ℕ). n ≤ t) first from);
}

-- one more is specified
pub specified_early : (k : Known) (place : Place) (o : Operation) (t : ℕ) (formal : List ℕ) → formal_among o t place.specified ≡ None → place.first_type ≤ t → t < place.types → Early k place → Early (with_specification o t formal k) (with_specified o t formal place)
specified_early k place o t formal new own less e =
    let w = e.waits in
    record {
      waits = record {
        count = ap (λ (x : Option ProcedureNo). waits_if x (waiting place.overridden place.specified)) (e.fresh o t own) ∙ (ap (λ (n : ℕ). n + 1) w.count ∙ awaits o);
        apart = (new, w.apart);
        below = λ a u is. by_this a u (is_this_operation a o u t) refl is;
      };
      fresh = e.fresh;
    }
  where
    awaits : (o : Operation) → k.here.specified.awaited + 1 ≡ (specified_more o t formal k.here.specified).awaited
    awaits Initialize = refl
    awaits Adjust = refl
    awaits Finalize = refl

    by_this : (a : Operation) (u : ℕ) (b : Bool) → is_this_operation a o u t ≡ b → is_some (cond b (Some formal) (formal_among a u place.specified)) ≡ true → u < place.types
    by_this a u true on is = subst (λ (n : ℕ). n < place.types) (sym (this_same a o u t on).1) less
    by_this a u false off is = e.waits.below a u is

-- a body ends
pub body_waits : (k m : Known) (p : Context) (head : HeadTree) (overrides : Option (Operation × ℕ)) (own : Option Operation) (name : Ident) (done : Place) → IsHeadRead p head overrides → is_some own ≡ is_some overrides → AreAlike p.place.specified p.place.overridden done.overridden → p.place.types ≤ done.types → m.here.specified ≡ answered own k.here.specified → Waits k p.place → Waits m (behind_body overrides name p.place done)
body_waits k m p head None None name done read same alike types known w = record {
  count = same_waiting p.place.overridden done.overridden p.place.specified alike ∙ (w.count ∙ ap (λ (ss : Specifications). ss.awaited) (sym known));
  apart = w.apart;
  below = λ o t is. let least = w.below o t is in omega (arith, least, types);
}
body_waits k m p head (Some which) (Some o) name done read same alike types known w =
    let some : is_some (formal_among which.0 which.1 p.place.specified) ≡ true = ap (λ (x : Option (List ℕ)). is_some x) read.2 in
    let one = taken p.place.overridden done.overridden which.0 which.1 (record { 0 = done.bodies }) p.place.specified w.apart some read.3 alike in
    let count = w.count in
    let less : waiting (overridden_behind (Some which) done.bodies done.overridden) p.place.specified ≡ (answered (Some o) k.here.specified).awaited = omega (arith, one, count) in
    record {
      count = less ∙ ap (λ (ss : Specifications). ss.awaited) (sym known);
      apart = w.apart;
      below = λ o t is. let least = w.below o t is in omega (arith, least, types);
    }
body_waits k m p head None (Some o) name done read same alike types known w = absurd (cc same)
body_waits k m p head (Some which) None name done read same alike types known w = absurd (cc same)

-- where none is awaited, each has its body
pub have_bodies : (k : Known) (place : Place) → Waits k place → k.here.specified.awaited ≡ 0 → HaveBodies place
have_bodies k place w none o t formal is open_so =
    bodied place.overridden place.specified (w.count ∙ none) o t (ap (λ (x : Option (List ℕ)). is_some x) is) open_so
