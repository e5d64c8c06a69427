-- What is known of the calls of the procedures of a program is done, procedure by procedure: exceptions come out, and objects are freed.

use Rattle.std.proofs.Common.{◌≡◌, ℕ, ◌+◌, ◌<◌, zero, suc, Bool, true, List, [], ◌∷◌, ◌++◌, length, refl, sym, ap, ◌∙◌, inl, inr, subst, arith, length-append}
use Rattle.std.proofs.lemmas.Bool.{cases_eq, cases_lt}
use Rattle.std.proofs.lemmas.Option.{slice_get_past}
use Rattle.std.specs.List.{list_all, slice_get}
use Rattle.std.specs.Prelude.{Option, Some, None}
use Rattle.ada_deeds.specs.Does.{called_does, is_deed_of}
use Rattle.ada_deeds.specs.Forms.{procedure_does}
use Rattle.ada_deeds.specs.Implicit.{implicit_of}
use Rattle.ada_deeds.specs.Laws.{RaisesAreDone, FreesAreDone}
use Rattle.ada_deeds.specs.Within.{does_within, callee_count, does_by}
use Rattle.ada_deeds.specs.declared.deed.Callee.TheVariants as callee
use Rattle.ada_deeds.specs.declared.deed.Deed.TheVariants.{Raises}
use Rattle.ada_deeds.proofs.Naming.{left_holds, right_holds}
use Rattle.ada_deeds.proofs.Freed.{deed, AreDone as AreFreed, body_out as frees_out}
use Rattle.ada_deeds.proofs.Parted.{does_parted}
use Rattle.ada_deeds.proofs.Raised.{Only, Done, only_itself, AreDone, body_out}
use Rattle.ada_deeds.proofs.Starting.{fits_of, closes, out_created}
use Rattle.ada_deeds.proofs.Within.{counts_are_enough}
use Rattle.ada_effects.specs.Effects.{Effect, call_raises, call_frees, effect_of, known_of, effects_from}
use Rattle.ada_program.specs.declared.program.Exception.{Exception}
use Rattle.ada_program.specs.Handling.{is_same}
use Rattle.ada_program.specs.ProgramForm.{BodyForm, ProgramForm}
use Rattle.ada_program.specs.WellFormed.{Profile, profile_of, type_fits, body_fits, bodies_fit}

-- One element more behind others.

pub at_left : {X : Type 0} (xs : List X) (x : X) (n : ℕ) → n < length xs → slice_get (xs ++ x ∷ []) n ≡ slice_get xs n
at_left [] x n below = absurd (omega (arith, below))
at_left (y ∷ xs) x zero below = refl
at_left (y ∷ xs) x (suc n) below = at_left xs x n (omega (arith, below))

pub at_last : {X : Type 0} (xs : List X) (x : X) → slice_get (xs ++ x ∷ []) (length xs) ≡ Some x
at_last [] x = refl
at_last (y ∷ xs) x = at_last xs x

-- What holds of what is known of each, and of one more, holds of all.
pub one_more : {X : Type 0} (P : ℕ → Option X → Type 0) (xs : List X) (x : X) → ((n : ℕ) → P n (slice_get xs n)) → P (length xs) (Some x) → ((n : ℕ) → P n None) →
    (n : ℕ) → P n (slice_get (xs ++ x ∷ []) n)
one_more P xs x each new none n = elim (cases_lt n (length xs)) [
  | inl below ↦ subst (P n) (sym (at_left xs x n below)) (each n)
  | inr from ↦ elim (cases_eq n (length xs)) [
    | inl same ↦
        let here : slice_get (xs ++ x ∷ []) n ≡ Some x = ap (slice_get (xs ++ x ∷ [])) same ∙ at_last xs x in
        subst (P n) (sym here) (subst (λ (m : ℕ). P m (Some x)) (sym same) new)
    | inr other ↦
        let long = length-append xs (x ∷ []) in
        subst (P n) (sym (slice_get_past (xs ++ x ∷ []) n (omega (arith, from, other, long)))) (none n)
  ]
]

module _ (p : ProgramForm) (P : (procedure : ℕ) → Option Effect → Type 0) (none : (n : ℕ) → P n None)
    (next : (known : List Effect) (callable : List Profile) (b : BodyForm) → ((n : ℕ) → P n (slice_get known n)) → slice_get p.bodies (length known) ≡ Some b →
    body_fits p.types p.texts p.exceptions callable b ≡ true → P (length known) (Some (effect_of p.types (known_of (implicit_of p) known) b))) where
  all_behind : (known : List Effect) (callable : List Profile) (bs : List BodyForm) → ((n : ℕ) → P n (slice_get known n)) →
      ((i : ℕ) → slice_get p.bodies (length known + i) ≡ slice_get bs i) → bodies_fit p.types p.texts p.exceptions callable bs ≡ true →
      (n : ℕ) → P n (slice_get (effects_from p.types (implicit_of p) known bs) n)
  all_behind known callable [] each at fits = each
  all_behind known callable (b ∷ bs) each at fits =
      let effect = effect_of p.types (known_of (implicit_of p) known) b in
      let here = body_fits p.types p.texts p.exceptions callable b in
      let later = bodies_fit p.types p.texts p.exceptions (callable ++ profile_of b ∷ []) bs in
      let first : length known ≡ length known + 0 = omega arith in
      let long = length-append known (effect ∷ []) in
      all_behind (known ++ effect ∷ []) (callable ++ profile_of b ∷ []) bs
      (one_more P known effect each (next known callable b each (ap (slice_get p.bodies) first ∙ at 0) (left_holds here later fits)) none)
      (λ i. let same : length (known ++ effect ∷ []) + i ≡ length known + suc i = omega (arith, long) in ap (slice_get p.bodies) same ∙ at (suc i))
      (right_holds here later fits)

  -- What holds of each body, where it holds of those before it, holds of all procedures.
  all_of : bodies_fit p.types p.texts p.exceptions [] p.bodies ≡ true → (n : ℕ) → P n (slice_get (effects_from p.types (implicit_of p) [] p.bodies) n)
  all_of fits =
      all_behind [] [] p.bodies (λ n. none n) (λ i. let same : 0 + i ≡ i = omega arith in ap (slice_get p.bodies) same) fits

-- Exceptions.
module _ (p : ProgramForm) (types_fit : list_all (type_fits p.types) p.types ≡ true) (e : Exception) where
  -- What is known of the calls of one procedure comes out of it.
  abbrev ComesOut : (procedure : ℕ) → Option Effect → Type 0
  ComesOut procedure effect =
      (among : Exception → Bool) → Only e among → call_raises effect among ≡ true → Done p.exceptions e among (procedure_does (does_by p (Raises e)) procedure)

  nothing_out : (procedure : ℕ) → ComesOut procedure None
  nothing_out procedure among only h = absurd (cc h)

  raises_known : (known : List Effect) → ((n : ℕ) → ComesOut n (slice_get known n)) → AreDone p.types p.exceptions (known_of (implicit_of p) known) (does_by p (Raises e)) e
  raises_known known each = record { starts = λ u h. out_created p e u h; called = λ procedure among only h. each procedure among only h }

  next_out : (known : List Effect) (callable : List Profile) (b : BodyForm) → ((n : ℕ) → ComesOut n (slice_get known n)) → slice_get p.bodies (length known) ≡ Some b →
      body_fits p.types p.texts p.exceptions callable b ≡ true → ComesOut (length known) (Some (effect_of p.types (known_of (implicit_of p) known) b))
  next_out known callable b each at fits among only h =
      let effects = known_of (implicit_of p) known in
      let does = does_by p (Raises e) in
      let procedure = callee.Procedure (record { 0 = length known }) in
      let done = body_out p.types p.texts p.exceptions callable effects does e (raises_known known each) types_fit b fits among only h in
      let out = closes p (Raises e) procedure (fits_of p e done.1) (ap (called_does p.types does (Raises e)) at ∙ done.2) in
      (done.0, done.1, (counts_are_enough p (Raises e) procedure).1 out)

-- An exception that the calls of a procedure may raise comes out of it.
pub raises_are_done : RaisesAreDone
raises_are_done p well procedure e h =
    let done = all_of p (ComesOut p well.types_fit e) (nothing_out p well.types_fit e) (next_out p well.types_fit e) well.bodies_fit procedure (is_same e) (only_itself e) h in
    (counts_are_enough p (Raises e) (callee.Procedure (record { 0 = procedure }))).0 done.2

-- Frees.
module _ (p : ProgramForm) (types_fit : list_all (type_fits p.types) p.types ≡ true) (t : ℕ) where
  -- What is known of the calls of one procedure is done by it.
  abbrev IsFreed : (procedure : ℕ) → Option Effect → Type 0
  IsFreed procedure effect = call_frees effect t ≡ true → procedure_does (does_by p (deed t)) procedure ≡ true

  nothing_freed : (procedure : ℕ) → IsFreed procedure None
  nothing_freed procedure h = absurd (cc h)

  frees_known : (known : List Effect) → ((n : ℕ) → IsFreed n (slice_get known n)) → AreFreed p.types (known_of (implicit_of p) known) (does_by p (deed t)) t
  frees_known known each = record {
    starts = λ u h. h;
    adjusts = λ u h. h;
    ends = λ u h. h;
    called = each;
    ranged = λ c h. left_holds (is_deed_of p (deed t)) (does_within p (deed t) (callee_count p) c) h;
    parted = λ operation r h. does_parted p types_fit (deed t) operation r ((counts_are_enough p (deed t) (callee.Parts operation (record { 0 = r }))).0 h);
  }

  next_freed : (known : List Effect) (callable : List Profile) (b : BodyForm) → ((n : ℕ) → IsFreed n (slice_get known n)) → slice_get p.bodies (length known) ≡ Some b →
      body_fits p.types p.texts p.exceptions callable b ≡ true → IsFreed (length known) (Some (effect_of p.types (known_of (implicit_of p) known) b))
  next_freed known callable b each at fits h =
      let effects = known_of (implicit_of p) known in
      let does = does_by p (deed t) in
      let procedure = callee.Procedure (record { 0 = length known }) in
      let done = frees_out p.types p.texts p.exceptions callable effects does t (frees_known known each) types_fit b fits h in
      (counts_are_enough p (deed t) procedure).1 (closes p (deed t) procedure done.0 (ap (called_does p.types does (deed t)) at ∙ done.1))

-- Objects that the calls of a procedure may free are freed by it.
pub frees_are_done : FreesAreDone
frees_are_done p well procedure t h =
    (counts_are_enough p (deed t) (callee.Procedure (record { 0 = procedure }))).0
    (all_of p (IsFreed p well.types_fit t) (nothing_freed p well.types_fit t) (next_freed p well.types_fit t) well.bodies_fit procedure h)
