-- Types but for the pools of access types and the operations of controlled types: a clause for Storage_Pool and the body of an operation change nothing
-- else of a type.

use Rattle.std.proofs.Common.{◌≡◌, ◌∙◌, ℕ, ◌≤◌, Bool, List, [], ◌∷◌, length, refl, sym, ap, zero, suc, arith}
use Rattle.std.specs.Prelude.{Option, Some, None}
use Rattle.std.specs.List.{list_all, slice_get, slice_set}
use Rattle.ada_program.specs.declared.program.ComponentKind.{ComponentKind}
use Rattle.ada_program.specs.declared.program.Finalization.{Finalization}
use Rattle.ada_program.specs.Controlled.{no_operations}
use Rattle.ada_program.specs.ProgramForm.{PartForm, TypeForm, record_of, access_to, object_of}

-- each element is there, with its number
abbrev pub AreIn : {X : Type 0} → List X → List X → Type 0
AreIn {X} xs ys = (i : ℕ) (x : X) → slice_get xs i ≡ Some x → slice_get ys i ≡ Some x

-- how objects of a type are finalized, but for its operations
abbrev pub bare_final : Option Finalization → Option Finalization
bare_final None = None
bare_final (Some f) = Some (record f { operations = no_operations })

-- a type without its pool and its operations
abbrev pub bare : TypeForm → TypeForm
bare (record_of name ps cs final) = record_of name ps cs (bare_final final)
bare (access_to name d pool) = access_to name d None
bare (object_of r) = object_of r

-- types without their pools and operations
abbrev pub forms : List TypeForm → List TypeForm
forms [] = []
forms (x ∷ types) = bare x ∷ forms types

-- what looks at no operation is the same of types that are finalized alike
pub same_final : {X : Type 0} (g : Option Finalization → X) → ((o : Option Finalization) → g (bare_final o) ≡ g o) → (a b : Option Finalization) → bare_final a ≡ bare_final b → g a ≡ g b
same_final g w a b e = sym (w a) ∙ (ap g e ∙ w b)

-- a type without controlled parts has no operations
pub none_final : (z : Option Finalization) → bare_final z ≡ None → z ≡ None
none_final None e = refl
none_final (Some f) e = absurd (cc e)

-- what a type is
pub get_form : (types : List TypeForm) (t : ℕ) (form : TypeForm) → slice_get types t ≡ Some form → slice_get (forms types) t ≡ Some (bare form)
get_form [] t form e = absurd (cc e)
get_form (x ∷ types) zero form e = let same : x ≡ form = cc e in ap (λ v. Some (bare v)) same
get_form (x ∷ types) (suc t) form e = get_form types t form e

pub form_as : (types : List TypeForm) (t : ℕ) (x form : TypeForm) → slice_get types t ≡ Some x → bare x ≡ form → slice_get (forms types) t ≡ Some form
form_as types t x form e same = get_form types t x e ∙ ap (λ v. Some v) same

pub form_there : (types : List TypeForm) (t : ℕ) (form : TypeForm) → slice_get (forms types) t ≡ Some form → (x : TypeForm) × (slice_get types t ≡ Some x) × (bare x ≡ form)
form_there [] t form e = absurd (cc e)
form_there (x ∷ types) zero form e = let same : bare x ≡ form = cc e in (x, refl, same)
form_there (x ∷ types) (suc t) form e = form_there types t form e

-- types that are the same but for their pools and operations are the same with them, where they have none
bare_record : (x : TypeForm) (name : List ℕ) (ps : List PartForm) (cs : List ComponentKind) (final : Option Finalization) → bare x ≡ record_of name ps cs final → (z : Option Finalization) × (x ≡ record_of name ps cs z) × (bare_final z ≡ final)
bare_record (record_of n p c z) name ps cs final e =
    let same_name : n ≡ name = cc e in
    let same_parts : p ≡ ps = cc e in
    let same_kinds : c ≡ cs = cc e in
    let same : bare_final z ≡ final = cc e in
    (z, rw (same_name, same_parts, same_kinds) refl, same)
bare_record (access_to n d pool) name ps cs final e = absurd (cc e)
bare_record (object_of r) name ps cs final e = absurd (cc e)

bare_object : (x : TypeForm) (r : ℕ) → bare x ≡ object_of r → x ≡ object_of r
bare_object (record_of n p c z) r e = absurd (cc e)
bare_object (access_to n d pool) r e = absurd (cc e)
bare_object (object_of u) r e = e

bare_access : (x : TypeForm) (name : List ℕ) (d : ℕ) → bare x ≡ access_to name d None → (pool : Option ℕ) × (x ≡ access_to name d pool)
bare_access (record_of n p c z) name d e = absurd (cc e)
bare_access (access_to n u pool) name d e = let same_name : n ≡ name = cc e in let same : u ≡ d = cc e in (pool, rw (same_name, same) refl)
bare_access (object_of r) name d e = absurd (cc e)

pub record_there : (types : List TypeForm) (t : ℕ) (name : List ℕ) (ps : List PartForm) (cs : List ComponentKind) (final : Option Finalization) → slice_get (forms types) t ≡ Some (record_of name ps cs final) → (z : Option Finalization) × (slice_get types t ≡ Some (record_of name ps cs z)) × (bare_final z ≡ final)
record_there types t name ps cs final e =
    let there = form_there types t (record_of name ps cs final) e in
    let own = bare_record there.0 name ps cs final there.2 in
    (own.0, there.1 ∙ ap (λ v. Some v) own.1, own.2)

pub object_there : (types : List TypeForm) (t r : ℕ) → slice_get (forms types) t ≡ Some (object_of r) → slice_get types t ≡ Some (object_of r)
object_there types t r e = let there = form_there types t (object_of r) e in there.1 ∙ ap (λ v. Some v) (bare_object there.0 r there.2)

pub access_there : (types : List TypeForm) (t : ℕ) (name : List ℕ) (d : ℕ) → slice_get (forms types) t ≡ Some (access_to name d None) → (pool : Option ℕ) × (slice_get types t ≡ Some (access_to name d pool))
access_there types t name d e =
    let there = form_there types t (access_to name d None) e in
    let own = bare_access there.0 name d there.2 in
    (own.0, there.1 ∙ ap (λ v. Some v) own.1)

-- so they are where types go on
pub forms_in : (types more : List TypeForm) → AreIn types more → AreIn (forms types) (forms more)
forms_in types more w t form e = let there = form_there types t form e in form_as more t there.0 form (w t there.0 there.1) there.2

pub forms_length : (types : List TypeForm) → length (forms types) ≡ length types
forms_length [] = refl
forms_length (x ∷ types) = let h = forms_length types in omega (arith, h)

-- a type that is the same but for its pool or its operations
pub forms_set : (types : List TypeForm) (t : ℕ) (x y : TypeForm) → slice_get types t ≡ Some x → bare y ≡ bare x → forms (slice_set types t y) ≡ forms types
forms_set [] t x y e same = refl
forms_set (z ∷ types) zero x y e same = let own : z ≡ x = cc e in ap (λ v. v ∷ forms types) (same ∙ ap (λ v. bare v) (sym own))
forms_set (z ∷ types) (suc t) x y e same = ap (λ ts. bare z ∷ ts) (forms_set types t x y e same)

-- tables that grow are no shorter
pub longer : {X : Type 0} (xs ys : List X) → ((i : ℕ) (x : X) → slice_get xs i ≡ Some x → slice_get ys i ≡ Some x) → length xs ≤ length ys
longer [] ys w = omega arith
longer (x ∷ xs) [] w = let no : None ≡ Some x = w 0 x refl in absurd (cc no)
longer (x ∷ xs) (y ∷ ys) w = let h = longer xs ys (λ i. w (suc i)) in omega arith

pub longer_types : (types more : List TypeForm) → ((t : ℕ) (form : TypeForm) → slice_get (forms types) t ≡ Some form → slice_get (forms more) t ≡ Some form) → length types ≤ length more
longer_types types more g =
    let long = longer (forms types) (forms more) g in
    let before = forms_length types in
    let behind = forms_length more in
    omega (arith, long, before, behind)

-- each type is there among more of them, but for its pool and its operations
module _ (types more : List TypeForm) (g : AreIn (forms types) (forms more)) where
  pub record_stays : (t : ℕ) (name : List ℕ) (ps : List PartForm) (cs : List ComponentKind) (final : Option Finalization) → slice_get types t ≡ Some (record_of name ps cs final) → (z : Option Finalization) × (slice_get more t ≡ Some (record_of name ps cs z)) × (bare_final z ≡ bare_final final)
  record_stays t name ps cs final e = record_there more t name ps cs (bare_final final) (g t (record_of name ps cs (bare_final final)) (get_form types t (record_of name ps cs final) e))

  -- one without controlled parts is the same
  pub plain_stays : (t : ℕ) (name : List ℕ) (ps : List PartForm) (cs : List ComponentKind) → slice_get types t ≡ Some (record_of name ps cs None) → slice_get more t ≡ Some (record_of name ps cs None)
  plain_stays t name ps cs e =
      let there = record_stays t name ps cs None e in there.1 ∙ ap (λ (z : Option Finalization). Some (record_of name ps cs z)) (none_final there.0 there.2)

  pub object_stays : (t r : ℕ) → slice_get types t ≡ Some (object_of r) → slice_get more t ≡ Some (object_of r)
  object_stays t r e = object_there more t r (g t (object_of r) (get_form types t (object_of r) e))

  pub access_stays : (t : ℕ) (name : List ℕ) (d : ℕ) (pool : Option ℕ) → slice_get types t ≡ Some (access_to name d pool) → (q : Option ℕ) × (slice_get more t ≡ Some (access_to name d q))
  access_stays t name d pool e = access_there more t name d (g t (access_to name d None) (get_form types t (access_to name d pool) e))

  -- so what looks at no pool and no operation stays the same of each of them
  pub same_at : {X : Type 0} (f : Option TypeForm → X) → ((x : TypeForm) → f (Some (bare x)) ≡ f (Some x)) → (t : ℕ) (x : TypeForm) → slice_get types t ≡ Some x → f (slice_get more t) ≡ f (Some x)
  same_at f w t x e =
      let there = form_there more t (bare x) (g t (bare x) (get_form types t x e)) in
      ap f there.1 ∙ (sym (w there.0) ∙ (ap (λ v. f (Some v)) there.2 ∙ w x))

-- what is so of each type is so of types that are the same but for their pools and operations
pub all_forms : (p : TypeForm → Bool) → ((x : TypeForm) → p (bare x) ≡ p x) → (types : List TypeForm) → list_all p (forms types) ≡ list_all p types
all_forms p w [] = refl
all_forms p w (x ∷ types) = rw (w x, all_forms p w types) refl
