-- The first fault.

use Rattle.std.proofs.Common.{◌≡◌, ℕ, ◌+◌, ◌<◌, false, nat_lt, length, ◌⊎◌, inl, inr, refl, sym, ap, ◌∙◌, subst, arith}
use Rattle.std.specs.Prelude.{Option, Some, None}
use Rattle.std.specs.List.{slice_get}
use Rattle.std.proofs.lemmas.Bool.{cases_lt}
use Rattle.std.proofs.lemmas.Option.{slice_get_past}
use Rattle.ada_deeds.specs.Does.{Does}
use Rattle.ada_deeds.specs.Rows.{does_in, RaisesSome, RaisesNone}
use Rattle.ada_deeds.specs.declared.deed.Callee.TheVariants as callee
use Rattle.ada_deeds.specs.declared.deed.Deed.TheVariants as deed
use Rattle.ada_deeds.specs.declared.deed.Operation.{Operation}
use Rattle.ada_deeds.specs.declared.deed.Operation.TheVariants.{Adjust, Finalize}
use Rattle.ada_operations.specs.Operations.{overriding_in, UsesTooLate, BreaksRule, rule_number, is_before, HasFault}
use Rattle.ada_operations.specs.View.{Knows, BreaksIn, IsFirstRule, HasFaultIn, HasFaultAt, IsFirst, first_of}
use Rattle.ada_operations.specs.declared.facts.Facts.{Facts}
use Rattle.ada_operations.specs.declared.rule.OperationRule.{OperationRule}
use Rattle.ada_operations.specs.declared.rule.OperationRule.TheVariants.{FinalizeOrder, MayPropagate, FinalizeAllocates}
use Rattle.ada_operations.proofs.Orders.{fault_order, at_one_place}
use Rattle.ada_program.specs.declared.program.Exception.{Exception}
use Rattle.ada_program.specs.declared.program.Finalization.{Finalization}
use Rattle.ada_program.specs.declared.program.ProcedureNo.{ProcedureNo}
use Rattle.ada_program.specs.ProgramForm.{TypeForm, BodyForm, ProgramForm}
use Rattle.ada_program.specs.WellFormed.{finalization_in, finalization_of}
use Rattle.ada_quiet.proofs.Firsts.{either_first, same_first}
use Rattle.ada_text.specs.declared.spot.Spot.{Spot}

some_same : {X : Type 0} {x y : X} → Some x ≡ Some y → x ≡ y
some_same h = cc h

-- The rules that a body breaks.

pub breaks_order : (p : ProgramForm) (q : ProcedureNo) (o : Operation) (r : ℕ) → UsesTooLate p q r → IsFirstRule (BreaksIn p q o r) (Some FinalizeOrder)
breaks_order p q o r h = (h, least)
  where
    least : (other : OperationRule) → BreaksIn p q o r other → nat_lt (rule_number other) 8 ≡ false
    least FinalizeOrder g = refl
    least MayPropagate g = refl
    least FinalizeAllocates g = refl

pub breaks_raising : (p : ProgramForm) (q : ProcedureNo) (o : Operation) (r : ℕ) → ¬ (UsesTooLate p q r) →
    (e : Exception) × Does p (deed.Raises e) (callee.Procedure q) → IsFirstRule (BreaksIn p q o r) (Some MayPropagate)
breaks_raising p q o r early h = (h, least)
  where
    least : (other : OperationRule) → BreaksIn p q o r other → nat_lt (rule_number other) 9 ≡ false
    least FinalizeOrder g = absurd (early g)
    least MayPropagate g = refl
    least FinalizeAllocates g = refl

pub breaks_allocating : (p : ProgramForm) (q : ProcedureNo) (r : ℕ) → ¬ (UsesTooLate p q r) →
    ((e : Exception) → ¬ (Does p (deed.Raises e) (callee.Procedure q))) → Does p deed.Allocates (callee.Procedure q) → IsFirstRule (BreaksIn p q Finalize r) (Some FinalizeAllocates)
breaks_allocating p q r early silent h = ((refl, h), least)
  where
    least : (other : OperationRule) → BreaksIn p q Finalize r other → nat_lt (rule_number other) 10 ≡ false
    least FinalizeOrder g = absurd (early g)
    least MayPropagate g = absurd (silent g.0 g.1)
    least FinalizeAllocates g = refl

pub breaks_none : (p : ProgramForm) (q : ProcedureNo) (o : Operation) (r : ℕ) → ¬ (UsesTooLate p q r) →
    ((e : Exception) → ¬ (Does p (deed.Raises e) (callee.Procedure q))) → (o ≡ Finalize → ¬ (Does p deed.Allocates (callee.Procedure q))) → IsFirstRule (BreaksIn p q o r) None
breaks_none p q o r early silent none = go
  where
    go : (rule : OperationRule) → ¬ (BreaksIn p q o r rule)
    go FinalizeOrder g = early g
    go MayPropagate g = silent g.0 g.1
    go FinalizeAllocates g = none g.0 g.1

-- By what is known.

pub raising : (p : ProgramForm) (facts : Facts) → Knows p facts → (q : ProcedureNo) → RaisesSome facts.deeds (callee.Procedure q) →
    (e : Exception) × Does p (deed.Raises e) (callee.Procedure q)
raising p facts k q h = (h.0, (k.deeds (deed.Raises h.0) (callee.Procedure q)).0 h.1)

pub silent : (p : ProgramForm) (facts : Facts) → Knows p facts → (q : ProcedureNo) → RaisesNone facts.deeds (callee.Procedure q) →
    (e : Exception) → ¬ (Does p (deed.Raises e) (callee.Procedure q))
silent p facts k q none e h = absurd (cc (sym ((k.deeds (deed.Raises e) (callee.Procedure q)).1 h) ∙ none e))

pub allocates_none : (p : ProgramForm) (facts : Facts) → Knows p facts → (q : ProcedureNo) → does_in facts.deeds deed.Allocates (callee.Procedure q) ≡ false →
    ¬ (Does p deed.Allocates (callee.Procedure q))
allocates_none p facts k q none h = absurd (cc (sym ((k.deeds deed.Allocates (callee.Procedure q)).1 h) ∙ none))

-- Its faults.

pub not_overridden : (p : ProgramForm) (o : Operation) (r : ℕ) → IsFirst (HasFaultIn p None o r) None
not_overridden p o r f h = absurd (cc h.1)

pub no_body : (p : ProgramForm) (q : ProcedureNo) (o : Operation) (r : ℕ) → slice_get p.bodies q.0 ≡ None → IsFirst (HasFaultIn p (Some q) o r) None
no_body p q o r away f h =
    let (b, at, begins, breaks) = h.2 in
    absurd (cc (sym (sym (ap (λ (n : ProcedureNo). slice_get p.bodies n.0) (some_same h.1)) ∙ away) ∙ sym (sym at)))

pub unbroken : (p : ProgramForm) (q : ProcedureNo) (o : Operation) (r : ℕ) → IsFirstRule (BreaksIn p q o r) None → IsFirst (HasFaultIn p (Some q) o r) None
unbroken p q o r none f h =
    let (b, at, begins, breaks) = h.2 in
    none f.1 (subst (λ (n : ProcedureNo). BreaksIn p n o r f.1) (sym (some_same h.1)) breaks)

pub broken : (p : ProgramForm) (q : ProcedureNo) (b : BodyForm) (o : Operation) (r : ℕ) (rule : OperationRule) → slice_get p.bodies q.0 ≡ Some b →
    IsFirstRule (BreaksIn p q o r) (Some rule) → IsFirst (HasFaultIn p (Some q) o r) (Some (b.start_spot, rule))
broken p q b o r rule at first = ((q, refl, (b, at, refl, first.0)), least)
  where
    least : (g : Spot × OperationRule) → HasFaultIn p (Some q) o r g → is_before g (b.start_spot, rule) ≡ false
    least g h =
        let (c, there, begins, breaks) = h.2 in
        let same : c ≡ b = some_same (sym there ∙ sym (ap (λ (n : ProcedureNo). slice_get p.bodies n.0) (some_same h.1)) ∙ at) in
        let here : b.start_spot ≡ g.0 = ap (λ (x : BodyForm). x.start_spot) (sym same) ∙ begins in
        subst (λ (s : Spot). is_before (s, g.1) (b.start_spot, rule) ≡ false) here
        (at_one_place b.start_spot rule g.1 (first.1 g.1 (subst (λ (n : ProcedureNo). BreaksIn p n o r g.1) (sym (some_same h.1)) breaks)))

-- Those of a type.

pub type_first : (p : ProgramForm) (r : ℕ) (f : Finalization) → finalization_of p.types r ≡ Some f → (a b : Option (Spot × OperationRule)) →
    IsFirst (HasFaultIn p f.operations.adjust Adjust r) a → IsFirst (HasFaultIn p f.operations.finalize Finalize r) b → IsFirst (HasFaultAt p r) (first_of a b)
type_first p r f is a b one two =
    let adjusts : Spot × OperationRule → Type 0 = HasFaultIn p f.operations.adjust Adjust r in
    let finalizes : Spot × OperationRule → Type 0 = HasFaultIn p f.operations.finalize Finalize r in
    subst (λ (o : Option Finalization). IsFirst (λ g. HasFaultIn p (overriding_in Adjust o) Adjust r g ⊎ HasFaultIn p (overriding_in Finalize o) Finalize r g) (first_of a b))
    (sym is) (either_first is_before fault_order adjusts finalizes a b one two)

pub type_none : (p : ProgramForm) (r : ℕ) → finalization_of p.types r ≡ None → IsFirst (HasFaultAt p r) None
type_none p r is f (inl h) = absurd (cc (sym h.1 ∙ ap (overriding_in Adjust) is))
type_none p r is f (inr h) = absurd (cc (sym h.1 ∙ ap (overriding_in Finalize) is))

-- Those of all types.

-- A fault of one of the first types.
abbrev pub Below : ProgramForm → (count : ℕ) → Spot × OperationRule → Type 0
Below p count f = (t : ℕ) × (t < count) × HasFaultAt p t f

pub below_none : (p : ProgramForm) → IsFirst (Below p 0) None
below_none p = λ f h. absurd (omega (arith, h.1))

pub below_more : (p : ProgramForm) (count : ℕ) (a b : Option (Spot × OperationRule)) → IsFirst (Below p count) a → IsFirst (HasFaultAt p count) b →
    IsFirst (Below p (count + 1)) (first_of a b)
below_more p count a b one two =
    same_first is_before (λ f. Below p count f ⊎ HasFaultAt p count f) (Below p (count + 1)) to from (first_of a b)
    (either_first is_before fault_order (Below p count) (HasFaultAt p count) a b one two)
  where
    to : (f : Spot × OperationRule) → Below p count f ⊎ HasFaultAt p count f → Below p (count + 1) f
    to f (inl h) = (h.0, omega (arith, h.1), h.2)
    to f (inr h) = (count, omega arith, h)

    from : (f : Spot × OperationRule) → Below p (count + 1) f → Below p count f ⊎ HasFaultAt p count f
    from f h = elim (cases_lt h.0 count) [
      | inl less ↦ inl (h.0, less, h.2)
      | inr more ↦ let here : h.0 ≡ count = omega (arith, more, h.1) in inr (subst (λ (n : ℕ). HasFaultAt p n f) here h.2)
    ]

-- An operation that is overridden is that of a type of the program.
within : (p : ProgramForm) (o : Operation) (r : ℕ) (q : ProcedureNo) → overriding_in o (finalization_of p.types r) ≡ Some q → r < length p.types
within p o r q is = elim (cases_lt r (length p.types)) [
  | inl less ↦ less
  | inr more ↦ absurd (cc (sym (ap (λ (d : Option TypeForm). overriding_in o (finalization_in d)) (slice_get_past p.types r more)) ∙ is))
]

pub fault_from : (p : ProgramForm) (q : ProcedureNo) (rule : OperationRule) → BreaksRule p q rule →
    (r : ℕ) × (r < length p.types) × (((overriding_in Adjust (finalization_of p.types r) ≡ Some q) × BreaksIn p q Adjust r rule)
    ⊎ ((overriding_in Finalize (finalization_of p.types r) ≡ Some q) × BreaksIn p q Finalize r rule))
fault_from p q FinalizeOrder (r, inl is, late) = (r, within p Adjust r q is, inl (is, late))
fault_from p q FinalizeOrder (r, inr is, late) = (r, within p Finalize r q is, inr (is, late))
fault_from p q MayPropagate (r, inl is, raises) = (r, within p Adjust r q is, inl (is, raises))
fault_from p q MayPropagate (r, inr is, raises) = (r, within p Finalize r q is, inr (is, raises))
fault_from p q FinalizeAllocates (r, is, allocates) = (r, within p Finalize r q is, inr (is, (refl, allocates)))

adjust_breaks : (p : ProgramForm) (q : ProcedureNo) (r : ℕ) (rule : OperationRule) → overriding_in Adjust (finalization_of p.types r) ≡ Some q →
    BreaksIn p q Adjust r rule → BreaksRule p q rule
adjust_breaks p q r FinalizeOrder is h = (r, inl is, h)
adjust_breaks p q r MayPropagate is h = (r, inl is, h)
adjust_breaks p q r FinalizeAllocates is h = absurd (cc h.0)

finalize_breaks : (p : ProgramForm) (q : ProcedureNo) (r : ℕ) (rule : OperationRule) → overriding_in Finalize (finalization_of p.types r) ≡ Some q →
    BreaksIn p q Finalize r rule → BreaksRule p q rule
finalize_breaks p q r FinalizeOrder is h = (r, inr is, h)
finalize_breaks p q r MayPropagate is h = (r, inr is, h)
finalize_breaks p q r FinalizeAllocates is h = (r, is, h.1)

pub below_all : (p : ProgramForm) (a : Option (Spot × OperationRule)) → IsFirst (Below p (length p.types)) a → IsFirst (HasFault p) a
below_all p a h = same_first is_before (Below p (length p.types)) (HasFault p) to from a h
  where
    one : (f : Spot × OperationRule) (t : ℕ) → HasFaultAt p t f → HasFault p f
    one f t (inl (q, is, (b, at, begins, breaks))) = (q, b, at, begins, adjust_breaks p q t f.1 is breaks)
    one f t (inr (q, is, (b, at, begins, breaks))) = (q, b, at, begins, finalize_breaks p q t f.1 is breaks)

    to : (f : Spot × OperationRule) → Below p (length p.types) f → HasFault p f
    to f h = one f h.0 h.2

    from : (f : Spot × OperationRule) → HasFault p f → Below p (length p.types) f
    from f (q, b, at, begins, breaks) =
        let (r, lt, which) = fault_from p q f.1 breaks in
        (r, lt, elim which [ inl (is, h) ↦ inl (q, is, (b, at, begins, h)) | inr (is, h) ↦ inr (q, is, (b, at, begins, h)) ])
