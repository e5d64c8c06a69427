-- Where no body breaks a rule on operations, no exception comes out where a record is adjusted or finalized (7.6.1); and a test of a program for each of the
-- two.

use Rattle.std.proofs.Common.{◌≡◌, ℕ, ◌<◌, zero, suc, Bool, true, ◌&&◌, List, [], ◌∷◌, length, refl, sym, ap, ◌∙◌, inl, inr, arith}
use Rattle.std.proofs.lemmas.Bool.{cases_eq, cases_lt, and_parts, or_cases}
use Rattle.std.proofs.lemmas.Option.{slice_get_past}
use Rattle.std.specs.List.{list_all, list_any}
use Rattle.std.specs.Prelude.{None, not}
use Rattle.ada_deeds.specs.Does.{Does, does, operations_do}
use Rattle.ada_deeds.specs.Implicit.{exceptions_of}
use Rattle.ada_deeds.specs.Within.{does_by}
use Rattle.ada_deeds.specs.declared.deed.Callee.TheVariants as callee
use Rattle.ada_deeds.specs.declared.deed.Deed.{Deed}
use Rattle.ada_deeds.specs.declared.deed.Deed.TheVariants.{Raises}
use Rattle.ada_deeds.specs.declared.deed.Operation.{Operation}
use Rattle.ada_deeds.specs.declared.deed.Operation.TheVariants.{Adjust, Finalize}
use Rattle.ada_deeds.proofs.Starting.{of_fits, is_listed}
use Rattle.ada_deeds.proofs.Within.{counts_are_enough, is_one_of}
use Rattle.ada_effects.proofs.Sameness.{are_equal}
use Rattle.ada_operations.specs.Laws.{ObeyingPropagatesNothing}
use Rattle.ada_operations.specs.Operations.{Overrides, AdjustsOrFinalizes, IsFirstFault}
use Rattle.ada_operations.specs.declared.rule.OperationRule.TheVariants.{MayPropagate}
use Rattle.ada_operations.proofs.Parts.{told}
use Rattle.ada_operations.proofs.Spared.{body_there}
use Rattle.ada_program.specs.declared.program.Exception.{Exception}
use Rattle.ada_program.specs.declared.program.ProcedureNo.{ProcedureNo}
use Rattle.ada_program.specs.declared.program.TypeNo.{TypeNo}
use Rattle.ada_program.specs.Handling.{is_same}
use Rattle.ada_program.specs.ProgramForm.{ProgramForm}

-- Where no body breaks a rule.

-- What comes out of an Adjust or a Finalize comes out of a procedure that overrides it for a part: its body breaks a rule (S9).
none_out : (p : ProgramForm) → IsFirstFault p None → (operation : Operation) →
    ((q : ProcedureNo) (r : ℕ) → Overrides p q operation r → AdjustsOrFinalizes p q r) → (e : Exception) (t : TypeNo) →
    ¬ (Does p (Raises e) (callee.Parts operation t))
none_out p none operation one e t h =
    let (r, q, lies, overrides, done) = told p (Raises e) (callee.Parts operation t) h in
    let (b, at) = body_there p (Raises e) q done in
    none (b.start_spot, MayPropagate) (q, b, at, refl, (r, one q r overrides, (e, done)))

pub obeying_propagates : ObeyingPropagatesNothing
obeying_propagates p none = record {
  adjusts = none_out p none Adjust (λ q r is. inl is);
  finalizes = none_out p none Finalize (λ q r is. inr is);
}

-- A test of a program.

-- Does this exception not come out where this operation is called for a record of the type of a number?
abbrev pub is_kept_in : ProgramForm → Operation → (record_type : ℕ) → Exception → Bool
is_kept_in p operation t e = not (does_by p (Raises e) (callee.Parts operation (record { 0 = t })))

-- Does none of the exceptions of the program, for so many of its types?
abbrev pub are_kept_in : ProgramForm → Operation → (count : ℕ) → Bool
are_kept_in p operation zero = true
are_kept_in p operation (suc n) = list_all (is_kept_in p operation n) (exceptions_of p) && are_kept_in p operation n

-- Does none, for all its types?
abbrev pub none_comes_out : ProgramForm → Operation → Bool
none_comes_out p operation = are_kept_in p operation (length p.types)

-- What all of a list pass, each one of it does.
passes : (test : Exception → Bool) (es : List Exception) (e : Exception) → list_any (is_same e) es ≡ true → list_all test es ≡ true → test e ≡ true
passes test [] e listed all = absurd (cc listed)
passes test (f ∷ fs) e listed all =
    let both = and_parts (test f) (list_all test fs) all in
    elim (or_cases (is_same e f) (list_any (is_same e) fs) listed) [
      | inl here ↦ ap test (are_equal e f here) ∙ both.0
      | inr behind ↦ passes test fs e behind both.1
    ]

module _ (p : ProgramForm) (operation : Operation) where
  among_first : (count : ℕ) → are_kept_in p operation count ≡ true → (t : ℕ) → t < count → (e : Exception) → list_any (is_same e) (exceptions_of p) ≡ true →
      is_kept_in p operation t e ≡ true
  among_first zero all t below e listed = absurd (omega (arith, below))
  among_first (suc n) all t below e listed =
      let both = and_parts (list_all (is_kept_in p operation n) (exceptions_of p)) (are_kept_in p operation n) all in
      elim (cases_eq t n) [
        | inl same ↦ ap (λ (m : ℕ). is_kept_in p operation m e) same ∙ passes (is_kept_in p operation n) (exceptions_of p) e listed both.0
        | inr other ↦ among_first n both.1 t (omega (arith, below, other)) e listed
      ]

  -- What an operation of the parts of a record does, it does for a type of the program.
  type_there : (d : Deed) (t : TypeNo) → Does p d (callee.Parts operation t) → t.0 < length p.types
  type_there d t (does of known each h) = elim (cases_lt t.0 (length p.types)) [
    | inl less ↦ less
    | inr more ↦ absurd (cc (sym (ap (operations_do known operation) (slice_get_past p.types t.0 more)) ∙ h))
  ]

  -- What comes out of one is an exception of the program, and so the test is made of it: a program that passes the test lets none out there.
  pub kept_by : none_comes_out p operation ≡ true → (e : Exception) (t : TypeNo) → ¬ (Does p (Raises e) (callee.Parts operation t))
  kept_by all e t h =
      let is = is_one_of p (Raises e) (callee.Parts operation t) h in
      let kept = among_first (length p.types) all t.0 (type_there (Raises e) t h) e (is_listed p e (of_fits p e is)) in
      cc (sym (ap not ((counts_are_enough p (Raises e) (callee.Parts operation t)).1 h)) ∙ kept)
