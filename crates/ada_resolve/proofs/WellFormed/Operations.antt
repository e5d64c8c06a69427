-- What overrides an operation of a controlled type is a procedure whose body has ended, for records of the type (7.6), and stays so as types and bodies are
-- added.

use Rattle.std.proofs.Common.{◌≡◌, ◌∙◌, ℕ, ◌+◌, true, ◌&&◌, List, [], ◌∷◌, ◌++◌, inl, inr, refl, sym, ap, subst, zero, suc, arith}
use Rattle.std.specs.Prelude.{◌⊎◌, Option, Some, None, map}
use Rattle.std.specs.List.{slice_get, slice_set}
use Rattle.ada_program.specs.declared.program.Finalization.{Finalization}
use Rattle.ada_program.specs.declared.program.FormalMode.{FormalMode}
use Rattle.ada_program.specs.declared.program.FormalMode.TheVariants.{InOut}
use Rattle.ada_program.specs.declared.program.ProcedureNo.{ProcedureNo}
use Rattle.ada_program.specs.declared.program.VariableKind.{VariableKind}
use Rattle.ada_program.specs.declared.program.VariableKind.TheVariants as variable
use Rattle.ada_program.specs.ProgramForm.{TypeForm, record_of, access_to, object_of, BodyForm}
use Rattle.ada_program.specs.WellFormed as fits
use Rattle.ada_program.specs.WellFormed.{Profile}
use Rattle.ada_resolve.proofs.WellFormed.Forms.{AreIn}
use Rattle.ada_resolve.proofs.WellFormed.Tables.{both_parts, first_part, second_part, get_other}

-- the profiles of the procedures whose bodies these are
abbrev pub callables : List BodyForm → List Profile
callables bodies = map fits.profile_of bodies

-- the profile of a body that is there
abbrev pub profile_at : Option BodyForm → Option Profile
profile_at (Some b) = Some (fits.profile_of b)
profile_at None = None

pub profile_got : (bs : List BodyForm) (i : ℕ) → slice_get (callables bs) i ≡ profile_at (slice_get bs i)
profile_got [] i = refl
profile_got (b ∷ bs) zero = refl
profile_got (b ∷ bs) (suc i) = profile_got bs i

-- where there are more bodies, each profile stays
pub callables_in : (bs cs : List BodyForm) → AreIn bs cs → AreIn (callables bs) (callables cs)
callables_in bs cs w i p is = by_body (slice_get bs i) refl (sym (profile_got bs i) ∙ is)
  where
    by_body : (o : Option BodyForm) → slice_get bs i ≡ o → profile_at o ≡ Some p → slice_get (callables cs) i ≡ Some p
    by_body None there is = absurd (cc is)
    by_body (Some b) there is = profile_got cs i ∙ (ap (λ (o : Option BodyForm). profile_at o) (w i b there) ∙ is)

-- each type has the operations that it says
abbrev pub HaveOperations : List TypeForm → (callable : List Profile) → Type 0
HaveOperations types callable = (t : ℕ) → fits.has_operations types callable t (fits.finalization_of types t) ≡ true

have_from : (types : List TypeForm) (callable : List Profile) (n : ℕ) (xs : List TypeForm) → ((i : ℕ) → fits.has_operations types callable (n + i) (fits.finalization_in (slice_get xs i)) ≡ true) → fits.have_operations types callable n xs ≡ true
have_from types callable n [] w = refl
have_from types callable n (x ∷ xs) w =
    let own = fits.finalization_in (Some x) in
    let first : n + 0 ≡ n = omega arith in
    both_parts (fits.has_operations types callable n own) (fits.have_operations types callable (1 + n) xs)
    (subst (λ (m : ℕ). fits.has_operations types callable m own ≡ true) first (w 0))
    (have_from types callable (1 + n) xs
    (λ i. let next : n + suc i ≡ (1 + n) + i = omega arith in subst (λ (m : ℕ). fits.has_operations types callable m (fits.finalization_in (slice_get xs i)) ≡ true) next (w (suc i))))

pub all_have : (types : List TypeForm) (callable : List Profile) → HaveOperations types callable → fits.have_operations types callable 0 types ≡ true
all_have types callable w = have_from types callable 0 types (λ i. let same : i ≡ 0 + i = omega arith in subst (λ (m : ℕ). fits.has_operations types callable m (fits.finalization_of types i) ≡ true) same (w i))

-- a type that overrides nothing has the operations that it says
inherited_right : (types : List TypeForm) (callable : List Profile) (t : ℕ) (o : Option ProcedureNo) → fits.is_inherited o ≡ true → fits.overrides_rightly types callable t o ≡ true
inherited_right types callable t None e = refl
inherited_right types callable t (Some procedure) e = absurd (cc e)

pub none_has : (types : List TypeForm) (callable : List Profile) (t : ℕ) (final : Option Finalization) → fits.overrides_nothing final ≡ true → fits.has_operations types callable t final ≡ true
none_has types callable t None e = refl
none_has types callable t (Some f) e =
    let a = fits.is_inherited f.operations.initialize in
    let b = fits.is_inherited f.operations.adjust in
    let c = fits.is_inherited f.operations.finalize in
    let front = first_part (a && b) c e in
    let first = fits.overrides_rightly types callable t f.operations.initialize in
    let second = fits.overrides_rightly types callable t f.operations.adjust in
    let third = fits.overrides_rightly types callable t f.operations.finalize in
    both_parts (first && second) third
    (both_parts first second (inherited_right types callable t f.operations.initialize (first_part a b front)) (inherited_right types callable t f.operations.adjust (second_part a b front)))
    (inherited_right types callable t f.operations.finalize (second_part (a && b) c e))

-- the types by which record objects are known stay
abbrev pub ObjectsStay : List TypeForm → List TypeForm → Type 0
ObjectsStay types more = (o r : ℕ) → slice_get types o ≡ Some (object_of r) → slice_get more o ≡ Some (object_of r)

-- among more types and more procedures
module _ (types more : List TypeForm) (callable reachable : List Profile) (objects : ObjectsStay types more) (calls : AreIn callable reachable) where
  object_stays : (t : ℕ) (o : Option TypeForm) (found : Option TypeForm) → ((r : ℕ) → o ≡ Some (object_of r) → found ≡ Some (object_of r)) → fits.is_this t (fits.object_in o) ≡ true → fits.is_this t (fits.object_in found) ≡ true
  object_stays t None found w e = absurd (cc e)
  object_stays t (Some (record_of name ps cs final)) found w e = absurd (cc e)
  object_stays t (Some (access_to name d pool)) found w e = absurd (cc e)
  object_stays t (Some (object_of r)) found w e = rw (w r refl) e

  formal_stays : (t : ℕ) (kind : VariableKind) → fits.stands_for types t kind ≡ true → fits.stands_for more t kind ≡ true
  formal_stays t variable.Integer e = absurd (cc e)
  formal_stays t variable.Boolean e = absurd (cc e)
  formal_stays t (variable.Access access) e = absurd (cc e)
  formal_stays t (variable.Record object) e = object_stays t (slice_get types object.0) (slice_get more object.0) (objects object.0) e

  operates_stays : (t : ℕ) (kinds : List VariableKind) (modes : List FormalMode) → fits.operates_on types t kinds modes ≡ true → fits.operates_on more t kinds modes ≡ true
  operates_stays t (kind ∷ []) (InOut ∷ []) e = formal_stays t kind e
  operates_stays t kinds modes e = absurd (cc e)

  operation_stays : (t : ℕ) (o found : Option Profile) → ((p : Profile) → o ≡ Some p → found ≡ Some p) → fits.is_operation types t o ≡ true → fits.is_operation more t found ≡ true
  operation_stays t None found w e = absurd (cc e)
  operation_stays t (Some p) found w e = rw (w p refl) (operates_stays t p.kinds p.modes e)

  pub right_stays : (t : ℕ) (o : Option ProcedureNo) → fits.overrides_rightly types callable t o ≡ true → fits.overrides_rightly more reachable t o ≡ true
  right_stays t None e = refl
  right_stays t (Some p) e = operation_stays t (slice_get callable p.0) (slice_get reachable p.0) (calls p.0) e

  pub has_stays : (t : ℕ) (final : Option Finalization) → fits.has_operations types callable t final ≡ true → fits.has_operations more reachable t final ≡ true
  has_stays t None e = refl
  has_stays t (Some f) e =
      let a = fits.overrides_rightly types callable t f.operations.initialize in
      let b = fits.overrides_rightly types callable t f.operations.adjust in
      let c = fits.overrides_rightly types callable t f.operations.finalize in
      let front = first_part (a && b) c e in
      let first = fits.overrides_rightly more reachable t f.operations.initialize in
      let second = fits.overrides_rightly more reachable t f.operations.adjust in
      let third = fits.overrides_rightly more reachable t f.operations.finalize in
      both_parts (first && second) third
      (both_parts first second (right_stays t f.operations.initialize (first_part a b front)) (right_stays t f.operations.adjust (second_part a b front)))
      (right_stays t f.operations.finalize (second_part (a && b) c e))

  -- where each of them is finalized as before, or is a new one, which overrides nothing
  pub have_stays : ((t : ℕ) → (fits.finalization_of more t ≡ fits.finalization_of types t) ⊎ (fits.overrides_nothing (fits.finalization_of more t) ≡ true)) → HaveOperations types callable → HaveOperations more reachable
  have_stays w h t = either (w t)
    where
      either : (fits.finalization_of more t ≡ fits.finalization_of types t) ⊎ (fits.overrides_nothing (fits.finalization_of more t) ≡ true) → fits.has_operations more reachable t (fits.finalization_of more t) ≡ true
      either (inl same) = subst (λ o. fits.has_operations more reachable t o ≡ true) (sym same) (has_stays t (fits.finalization_of types t) (h t))
      either (inr none) = none_has more reachable t (fits.finalization_of more t) none

-- one more type, and another definition for one of them
final_more : (types : List TypeForm) (form : TypeForm) (t : ℕ) → (fits.finalization_of (types ++ form ∷ []) t ≡ fits.finalization_of types t) ⊎ (fits.finalization_of (types ++ form ∷ []) t ≡ fits.finalization_in (Some form))
final_more [] form zero = inr refl
final_more [] form (suc t) = inl refl
final_more (x ∷ types) form zero = inl refl
final_more (x ∷ types) form (suc t) = final_more types form t

final_set : (types : List TypeForm) (u : ℕ) (form : TypeForm) (t : ℕ) → (fits.finalization_of (slice_set types u form) t ≡ fits.finalization_of types t) ⊎ (fits.finalization_of (slice_set types u form) t ≡ fits.finalization_in (Some form))
final_set [] u form t = inl refl
final_set (x ∷ types) zero form zero = inr refl
final_set (x ∷ types) zero form (suc t) = inl refl
final_set (x ∷ types) (suc u) form zero = inl refl
final_set (x ∷ types) (suc u) form (suc t) = final_set types u form t

new_inherits : (now before own : Option Finalization) → fits.overrides_nothing own ≡ true → (now ≡ before) ⊎ (now ≡ own) → (now ≡ before) ⊎ (fits.overrides_nothing now ≡ true)
new_inherits now before own e (inl same) = inl same
new_inherits now before own e (inr same) = inr (ap (λ o. fits.overrides_nothing o) same ∙ e)

pub objects_more : (types : List TypeForm) (form : TypeForm) → ObjectsStay types (types ++ form ∷ [])
objects_more [] form o r e = absurd (cc e)
objects_more (x ∷ types) form zero r e = e
objects_more (x ∷ types) form (suc o) r e = objects_more types form o r e

pub objects_set : (types : List TypeForm) (u : ℕ) (x form : TypeForm) → slice_get types u ≡ Some x → fits.object_in (Some x) ≡ None → ObjectsStay types (slice_set types u form)
objects_set types u x form is none o r e = get_other types u o form apart ∙ e
  where
    apart : u ≡ o → ⊥
    apart same =
        let own : Some x ≡ Some (object_of r) = sym is ∙ (ap (λ n. slice_get types n) same ∙ e) in
        let has : None ≡ Some r = sym none ∙ ap (λ y. fits.object_in y) own in cc has

pub have_more : (types : List TypeForm) (form : TypeForm) (callable : List Profile) → fits.overrides_nothing (fits.finalization_in (Some form)) ≡ true → HaveOperations types callable → HaveOperations (types ++ form ∷ []) callable
have_more types form callable e =
    have_stays types (types ++ form ∷ []) callable callable (objects_more types form) (λ i x is. is)
    (λ t. new_inherits (fits.finalization_of (types ++ form ∷ []) t) (fits.finalization_of types t) (fits.finalization_in (Some form)) e (final_more types form t))

pub have_set : (types : List TypeForm) (u : ℕ) (x form : TypeForm) (callable : List Profile) → slice_get types u ≡ Some x → fits.object_in (Some x) ≡ None → fits.overrides_nothing (fits.finalization_in (Some form)) ≡ true → HaveOperations types callable → HaveOperations (slice_set types u form) callable
have_set types u x form callable is none e =
    have_stays types (slice_set types u form) callable callable (objects_set types u x form is none) (λ i y there. there)
    (λ t. new_inherits (fits.finalization_of (slice_set types u form) t) (fits.finalization_of types t) (fits.finalization_in (Some form)) e (final_set types u form t))
