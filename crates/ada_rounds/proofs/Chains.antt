-- Laws of bodies that call themselves.

use Rattle.std.proofs.Common.{◌≡◌, ℕ, zero, suc, ◌<◌, List, [], ◌∷◌, refl, sym, ap, ◌∙◌, inl, inr, subst, arith}
use Rattle.std.proofs.lemmas.Bool.{cases_eq, cases_lt}
use Rattle.std.specs.List.{slice_get}
use Rattle.std.specs.Prelude.{Option, Some, None}
use Rattle.ada_deeds.specs.Does.{called_does}
use Rattle.ada_deeds.specs.Rounds.{is_callee, ComesTo, calls, CallsItself}
use Rattle.ada_deeds.specs.declared.deed.Callee.{Callee}
use Rattle.ada_deeds.specs.declared.deed.Callee.TheVariants as callee
use Rattle.ada_deeds.specs.declared.deed.Deed.TheVariants as deed
use Rattle.ada_deeds.proofs.Circles.{calls_some, first_call}
use Rattle.ada_program.specs.declared.program.ProcedureNo.{ProcedureNo}
use Rattle.ada_program.specs.ProgramForm.{BodyForm, ProgramForm}
use Rattle.ada_quiet.proofs.Unused.{some_same, one_first}
use Rattle.ada_rounds.specs.FirstRound.{HasRound, InitializesOrAdjusts, IsFirstRound}
use Rattle.ada_rounds.specs.Laws.{OneIsFirst, IsChain, empty, last, calling, EachStandsOnce}

-- Two first ones are one.
pub one_is_first : OneIsFirst
one_is_first p = one_first (HasRound p)

-- The first callee of a chain comes to each behind it.
comes_to : (p : ProgramForm) (c : Callee) (cs : List Callee) → IsChain p (c ∷ cs) → (n : ℕ) (e : Callee) → slice_get cs n ≡ Some e → ComesTo p c e
comes_to p c [] last n e is = absurd (cc is)
comes_to p c (other ∷ cs) (calling h chain) zero e is = subst (λ (x : Callee). ComesTo p c x) (some_same is) (calls h)
comes_to p c (other ∷ cs) (calling h chain) (suc n) e is = first_call p c other e h (comes_to p other cs chain n e is)

-- So does each to those behind it.
onward : (p : ProgramForm) (cs : List Callee) → IsChain p cs → (i j : ℕ) (c e : Callee) → i < j →
    slice_get cs i ≡ Some c → slice_get cs j ≡ Some e → ComesTo p c e
onward p [] chain i j c e lt at there = absurd (cc at)
onward p (x ∷ cs) chain i zero c e lt at there = absurd (omega (arith, lt))
onward p (x ∷ cs) chain zero (suc j) c e lt at there = subst (λ (y : Callee). ComesTo p y e) (some_same at) (comes_to p x cs chain j e there)
onward p (x ∷ cs) chain (suc i) (suc j) c e lt at there = onward p cs (behind x cs chain) i j c e (omega (arith, lt)) at there
  where
    behind : (x : Callee) (cs : List Callee) → IsChain p (x ∷ cs) → IsChain p cs
    behind x [] last = empty
    behind x (other ∷ cs) (calling h chain) = chain

-- What calls something has a body.
has_body : (p : ProgramForm) (procedure : ProcedureNo) → CallsItself p procedure → (b : BodyForm) × (slice_get p.bodies procedure.0 ≡ Some b)
has_body p procedure circles = go (slice_get p.bodies procedure.0) refl
  where
    go : (o : Option BodyForm) → slice_get p.bodies procedure.0 ≡ o → (b : BodyForm) × (slice_get p.bodies procedure.0 ≡ Some b)
    go (Some b) is = (b, is)
    go None is =
        let (e, one) = calls_some p (callee.Procedure procedure) (callee.Procedure procedure) circles in
        absurd (cc (sym (ap (called_does p.types (is_callee e) deed.Calls) is) ∙ one))

refused : (p : ProgramForm) → IsFirstRound p None → (procedure : ProcedureNo) → InitializesOrAdjusts p procedure → CallsItself p procedure → ⊥
refused p none procedure overrides circles =
    let (b, at) = has_body p procedure circles in
    none b.start_spot (procedure, b, at, refl, overrides, circles)

pub each_once : EachStandsOnce
each_once p none cs chain procedure overrides i j at there = elim (cases_eq i j) [
  | inl same ↦ same
  | inr other ↦ elim (cases_lt i j) [
    | inl before ↦ absurd (refused p none procedure overrides (onward p cs chain i j (callee.Procedure procedure) (callee.Procedure procedure) before at there))
    | inr behind ↦
        absurd (refused p none procedure overrides
        (onward p cs chain j i (callee.Procedure procedure) (callee.Procedure procedure) (omega (arith, other, behind)) there at))
  ]
]
