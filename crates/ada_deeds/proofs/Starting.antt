-- What comes out of an Initialize comes out of the initialization of each object in which such a record lies (7.6), so it is among what is known of that.

use Rattle.std.proofs.Common.{◌≡◌, ℕ, ◌<◌, zero, suc, Bool, true, false, ◌||◌, List, [], ◌∷◌, length, refl, sym, ap, ◌∙◌, inl, inr, arith}
use Rattle.std.proofs.lemmas.Bool.{cases_eq, and_parts, and_from, or_cases, or_left, or_right, eqb-true, eq-eqb, ltb-true, lt-ltb}
use Rattle.std.proofs.lemmas.List.Folds.{list_any-append}
use Rattle.std.proofs.lemmas.Map.Views.{any-filter_same}
use Rattle.std.specs.List.{list_all, list_any, slice_get}
use Rattle.std.specs.Prelude.{◌==◌, Option, Some}
use Rattle.ada_deeds.specs.Does.{is_exception_of, called_does, operations_do, callee_does, is_deed_of, Does, does}
use Rattle.ada_deeds.specs.Forms.{parts_do, creation_does, overriding, overriding_does, own_does, part_does, components_do}
use Rattle.ada_deeds.specs.Implicit.{declared_up_to, exceptions_of, record_at, implicit_of}
use Rattle.ada_deeds.specs.Within.{does_by}
use Rattle.ada_deeds.specs.declared.deed.Callee.{Callee}
use Rattle.ada_deeds.specs.declared.deed.Callee.TheVariants as callee
use Rattle.ada_deeds.specs.declared.deed.Deed.{Deed}
use Rattle.ada_deeds.specs.declared.deed.Deed.TheVariants.{Raises}
use Rattle.ada_deeds.specs.declared.deed.Operation.{Operation}
use Rattle.ada_deeds.specs.declared.deed.Operation.TheVariants.{Initialize, Finalize}
use Rattle.ada_deeds.proofs.Raised.{only_itself, none_done, body_out}
use Rattle.ada_deeds.proofs.Within.{counts_are_enough, is_one_of}
use Rattle.ada_effects.specs.Effects.{no_calls, body_raises}
use Rattle.ada_effects.proofs.Sameness.{are_equal}
use Rattle.ada_program.specs.declared.program.ComponentKind.{ComponentKind}
use Rattle.ada_program.specs.declared.program.Exception.{Exception}
use Rattle.ada_program.specs.declared.program.Exception.TheVariants.{ConstraintError, ProgramError, StorageError, EndError, Declared}
use Rattle.ada_program.specs.declared.program.ExceptionNo.{ExceptionNo}
use Rattle.ada_program.specs.declared.program.Finalization.{Finalization}
use Rattle.ada_program.specs.declared.program.PartKind.TheVariants as part
use Rattle.ada_program.specs.declared.program.ProcedureNo.{ProcedureNo}
use Rattle.ada_program.specs.declared.program.TypeNo.{TypeNo}
use Rattle.ada_program.specs.Handling.{is_same}
use Rattle.ada_program.specs.ProgramForm.{PartForm, record_of, BodyForm, ProgramForm}
use Rattle.ada_program.specs.Walks.{Walks, ends, into}
use Rattle.ada_program.specs.WellFormed.{Profile, type_fits, exception_fits, body_fits}

-- The exceptions of a program.

pub fits_of : (p : ProgramForm) (e : Exception) → exception_fits p.exceptions e ≡ true → is_exception_of p e ≡ true
fits_of p ConstraintError h = refl
fits_of p ProgramError h = refl
fits_of p StorageError h = refl
fits_of p EndError h = refl
fits_of p (Declared n) h = h

pub of_fits : (p : ProgramForm) (e : Exception) → is_exception_of p e ≡ true → exception_fits p.exceptions e ≡ true
of_fits p ConstraintError h = refl
of_fits p ProgramError h = refl
of_fits p StorageError h = refl
of_fits p EndError h = refl
of_fits p (Declared n) h = h

declared_more : (e : Exception) (n : ℕ) → list_any (is_same e) (declared_up_to (suc n)) ≡ (list_any (is_same e) (declared_up_to n) || (is_same e (Declared (record { 0 = n })) || false))
declared_more e n = list_any-append (is_same e) (declared_up_to n) (Declared (record { 0 = n }) ∷ [])

declared_listed : (k : ExceptionNo) (n : ℕ) → k.0 < n → list_any (is_same (Declared k)) (declared_up_to n) ≡ true
declared_listed k zero below = absurd (omega (arith, below))
declared_listed k (suc n) below =
    declared_more (Declared k) n ∙ elim (cases_eq k.0 n) [
      | inl same ↦ or_right (list_any (is_same (Declared k)) (declared_up_to n)) ((k.0 == n) || false) (or_left (k.0 == n) false (eq-eqb k.0 n same))
      | inr other ↦
          or_left (list_any (is_same (Declared k)) (declared_up_to n)) ((k.0 == n) || false) (declared_listed k n (omega (arith, below, other)))
    ]

-- Each exception of a program is listed.
pub is_listed : (p : ProgramForm) (e : Exception) → exception_fits p.exceptions e ≡ true → list_any (is_same e) (exceptions_of p) ≡ true
is_listed p ConstraintError h = refl
is_listed p ProgramError h = refl
is_listed p StorageError h = refl
is_listed p EndError h = refl
is_listed p (Declared k) h = declared_listed k (length p.exceptions) (ltb-true k.0 (length p.exceptions) h)

listed_declared : (k : ExceptionNo) (n : ℕ) → list_any (is_same (Declared k)) (declared_up_to n) ≡ true → k.0 < n
listed_declared k zero h = absurd (cc h)
listed_declared k (suc n) h =
    elim (or_cases (list_any (is_same (Declared k)) (declared_up_to n)) ((k.0 == n) || false) (sym (declared_more (Declared k) n) ∙ h)) [
      | inl before ↦ let less = listed_declared k n before in omega (arith, less)
      | inr here ↦ elim (or_cases (k.0 == n) false here) [
        | inl same ↦ let is = eqb-true k.0 n same in omega (arith, is)
        | inr wrong ↦ absurd (cc wrong)
      ]
    ]

pub listed_fits : (p : ProgramForm) (e : Exception) → list_any (is_same e) (exceptions_of p) ≡ true → exception_fits p.exceptions e ≡ true
listed_fits p ConstraintError h = refl
listed_fits p ProgramError h = refl
listed_fits p StorageError h = refl
listed_fits p EndError h = refl
listed_fits p (Declared k) h = lt-ltb k.0 (length p.exceptions) (listed_declared k (length p.exceptions) h)

-- What does a deed.

-- What does it where the deed is known of what does it.
pub closes : (p : ProgramForm) (d : Deed) (c : Callee) → is_deed_of p d ≡ true → callee_does p (does_by p d) d c ≡ true → Does p d c
closes p d c of h = does of (does_by p d) (λ other k. (counts_are_enough p d other).0 k) h

-- An exception that a body raises comes out of its procedure, where the body calls and initializes nothing.
pub body_comes_out : (p : ProgramForm) → list_all (type_fits p.types) p.types ≡ true → (callable : List Profile) (procedure : ProcedureNo) (b : BodyForm) →
    slice_get p.bodies procedure.0 ≡ Some b → body_fits p.types p.texts p.exceptions callable b ≡ true → (e : Exception) → body_raises no_calls b (is_same e) ≡ true →
    Does p (Raises e) (callee.Procedure procedure)
body_comes_out p types_fit callable procedure b at fits e h =
    let known = does_by p (Raises e) in
    let done = body_out p.types p.texts p.exceptions callable no_calls known e (none_done p.types p.exceptions known e) types_fit b fits (is_same e) (only_itself e) h in
    closes p (Raises e) (callee.Procedure procedure) (fits_of p e done.1) (ap (called_does p.types known (Raises e)) at ∙ done.2)

module _ (p : ProgramForm) (d : Deed) where
  known_by : (c : Callee) → Does p d c → does_by p d c ≡ true
  known_by c h = (counts_are_enough p d c).1 h

  -- What the procedure does that overrides an operation of a type, the operation does for the parts of an object of the type.
  pub own_out : (operation : Operation) (t : TypeNo) (name : List ℕ) (ps : List PartForm) (components : List ComponentKind) (f : Finalization) (procedure : ProcedureNo) →
      slice_get p.types t.0 ≡ Some (record_of name ps components (Some f)) → overriding operation f.operations ≡ Some procedure → Does p d (callee.Procedure procedure) →
      Does p d (callee.Parts operation t)
  own_out operation t name ps components f procedure at is h =
      let known = does_by p d in
      closes p d (callee.Parts operation t) (is_one_of p d (callee.Procedure procedure) h)
      (ap (operations_do known operation) at
      ∙ or_left (own_does known operation (Some f)) (components_do known operation ps) (ap (overriding_does known) is ∙ known_by (callee.Procedure procedure) h))

  component_does : (operation : Operation) (ps : List PartForm) (i : ℕ) (q : PartForm) (v : TypeNo) → slice_get ps i ≡ Some q → q.kind ≡ part.Record v →
      Does p d (callee.Parts operation v) → components_do (does_by p d) operation ps ≡ true
  component_does operation [] i q v at is h = absurd (cc at)
  component_does operation (r ∷ ps) zero q v at is h =
      let same : r ≡ q = cc at in
      or_left (part_does (does_by p d) operation r.kind) (components_do (does_by p d) operation ps)
      (ap (λ (x : PartForm). part_does (does_by p d) operation x.kind) same ∙ ap (part_does (does_by p d) operation) is ∙ known_by (callee.Parts operation v) h)
  component_does operation (r ∷ ps) (suc i) q v at is h =
      or_right (part_does (does_by p d) operation r.kind) (components_do (does_by p d) operation ps) (component_does operation ps i q v at is h)

  -- What is done for the parts of a component is done for those of the record.
  pub component_out : (operation : Operation) (t : TypeNo) (name : List ℕ) (ps : List PartForm) (components : List ComponentKind) (f : Option Finalization) (i : ℕ) (q : PartForm)
      (v : TypeNo) → slice_get p.types t.0 ≡ Some (record_of name ps components f) → slice_get ps i ≡ Some q → q.kind ≡ part.Record v →
      Does p d (callee.Parts operation v) → Does p d (callee.Parts operation t)
  component_out operation t name ps components f i q v at there is h =
      let known = does_by p d in
      closes p d (callee.Parts operation t) (is_one_of p d (callee.Parts operation v) h)
      (ap (operations_do known operation) at ∙ or_right (own_does known operation f) (components_do known operation ps) (component_does operation ps i q v there is h))

  -- So it is with those of a record that is found by walking into declared components.
  pub walked_out : (operation : Operation) (t first part u : ℕ) → Walks p.types t first part u → Does p d (callee.Parts operation (record { 0 = u })) →
      Does p d (callee.Parts operation (record { 0 = t }))
  walked_out operation t _ _ _ ends h = h
  walked_out operation t _ _ u (into i first part _ m name ps components f q v at there is known walks) h =
      component_out operation (record { 0 = t }) name ps components (Some f) i q v at there is (walked_out operation v.0 first part u walks h)

-- What comes out of the initialization of a record, or of its finalization, comes out where an object of it is created.
pub created_out : (p : ProgramForm) (e : Exception) (u r : ℕ) → record_at p.types u ≡ Some r → creation_does (does_by p (Raises e)) (Some r) ≡ true →
    is_exception_of p e ≡ true → list_any (is_same e) ((implicit_of p).start_raises u) ≡ true
created_out p e u r is h of =
    let raises : Exception → Bool = λ x. creation_does (does_by p (Raises x)) (record_at p.types u) in
    let here : raises e ≡ true = ap (creation_does (does_by p (Raises e))) is ∙ h in
    any-filter_same (is_same e) raises (raises e) (λ x same. ap raises (sym (are_equal e x same))) (exceptions_of p)
    ∙ and_from (raises e) (list_any (is_same e) (exceptions_of p)) here (is_listed p e (of_fits p e of))

pub initialize_out : (p : ProgramForm) (e : Exception) (u r : ℕ) → record_at p.types u ≡ Some r → Does p (Raises e) (callee.Parts Initialize (record { 0 = r })) →
    list_any (is_same e) ((implicit_of p).start_raises u) ≡ true
initialize_out p e u r is h =
    let c = callee.Parts Initialize (record { 0 = r }) in
    let known = does_by p (Raises e) in
    created_out p e u r is (or_left (parts_do known Initialize (Some r)) (parts_do known Finalize (Some r)) ((counts_are_enough p (Raises e) c).1 h)) (is_one_of p (Raises e) c h)

-- Conversely, what is known to come out where an object is created does, and is an exception of the program.
pub out_created : (p : ProgramForm) (e : Exception) (u : ℕ) → list_any (is_same e) ((implicit_of p).start_raises u) ≡ true →
    (exception_fits p.exceptions e ≡ true) × (creation_does (does_by p (Raises e)) (record_at p.types u) ≡ true)
out_created p e u h =
    let raises : Exception → Bool = λ x. creation_does (does_by p (Raises x)) (record_at p.types u) in
    let both = and_parts (raises e) (list_any (is_same e) (exceptions_of p))
    (sym (any-filter_same (is_same e) raises (raises e) (λ x same. ap raises (sym (are_equal e x same))) (exceptions_of p)) ∙ h) in
    (listed_fits p e both.1, both.0)
