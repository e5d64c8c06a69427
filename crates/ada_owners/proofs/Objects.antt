-- Objects by name: what is read after one was changed, and after one more.

use Rattle.std.proofs.Common.{◌≡◌, ◌≢◌, ℕ, zero, suc, true, false, Bool, List, [], ◌∷◌, ◌++◌, length, refl, ap, ◌∙◌, ◌⊎◌, inl, inr}
use Rattle.std.specs.Prelude.{Option, Some, None, if◌then◌else◌}
use Rattle.std.specs.List.{slice_get, slice_set, slice_index_or}
use Rattle.ada_meaning.specs.declared.state.Id.{Id}
use Rattle.ada_meaning.specs.declared.state.Value.{Value}
use Rattle.ada_meaning.specs.declared.state.Value.TheVariants.{Null}
use Rattle.ada_meaning.specs.Heap.{Cell}
use Rattle.ada_meaning.specs.Named.{Object, object_at, new_object, create}
use Rattle.ada_owners.specs.Places.{is_there, component_in, access_in, access_at}

-- Reading a list where it was written, or elsewhere.
module _ {X : Type 0} where
  pub read_same : (xs : List X) (i : ℕ) (v d : X) → (slice_index_or (slice_set xs i v) i d ≡ v) ⊎ (slice_index_or (slice_set xs i v) i d ≡ d)
  read_same [] i v d = inr refl
  read_same (x ∷ xs) zero v d = inl refl
  read_same (x ∷ xs) (suc i) v d = read_same xs i v d

  pub read_other : (xs : List X) (i k : ℕ) (v d : X) → k ≢ i → slice_index_or (slice_set xs i v) k d ≡ slice_index_or xs k d
  read_other [] i k v d ne = refl
  read_other (x ∷ xs) zero zero v d ne = absurd (ne refl)
  read_other (x ∷ xs) zero (suc k) v d ne = refl
  read_other (x ∷ xs) (suc i) zero v d ne = refl
  read_other (x ∷ xs) (suc i) (suc k) v d ne = read_other xs i k v d (λ e. ne (ap suc e))

  -- One more at the end.
  pub read_more : (xs : List X) (y d : X) (k : ℕ) → k ≢ length xs → slice_index_or (xs ++ y ∷ []) k d ≡ slice_index_or xs k d
  read_more [] y d zero ne = absurd (ne refl)
  read_more [] y d (suc k) ne = refl
  read_more (x ∷ xs) y d zero ne = refl
  read_more (x ∷ xs) y d (suc k) ne = read_more xs y d k (λ e. ne (ap suc e))

  pub read_last : (xs : List X) (y d : X) → slice_index_or (xs ++ y ∷ []) (length xs) d ≡ y
  read_last [] y d = refl
  read_last (x ∷ xs) y d = read_last xs y d

  pub set_here : (xs : List X) (i : ℕ) (x y : X) → slice_get xs i ≡ Some x → slice_get (slice_set xs i y) i ≡ Some y
  set_here [] i x y e = absurd (cc e)
  set_here (z ∷ xs) zero x y e = refl
  set_here (z ∷ xs) (suc i) x y e = set_here xs i x y e

  pub set_other : (xs : List X) (i k : ℕ) (y : X) → k ≢ i → slice_get (slice_set xs i y) k ≡ slice_get xs k
  set_other [] i k y ne = refl
  set_other (x ∷ xs) zero zero y ne = absurd (ne refl)
  set_other (x ∷ xs) zero (suc k) y ne = refl
  set_other (x ∷ xs) (suc i) zero y ne = refl
  set_other (x ∷ xs) (suc i) (suc k) y ne = set_other xs i k y (λ e. ne (ap suc e))

  pub get_more : (xs : List X) (y : X) (k : ℕ) → k ≢ length xs → slice_get (xs ++ y ∷ []) k ≡ slice_get xs k
  get_more [] y zero ne = absurd (ne refl)
  get_more [] y (suc k) ne = refl
  get_more (x ∷ xs) y zero ne = refl
  get_more (x ∷ xs) y (suc k) ne = get_more xs y k (λ e. ne (ap suc e))

  pub get_last : (xs : List X) (y : X) → slice_get (xs ++ y ∷ []) (length xs) ≡ Some y
  get_last [] y = refl
  get_last (x ∷ xs) y = get_last xs y

  pub get_past : (xs : List X) → slice_get xs (length xs) ≡ None
  get_past [] = refl
  get_past (x ∷ xs) = get_past xs

-- Two names with one number are one.
pub id_is : (o k : Id) → o.0 ≡ k.0 → o ≡ k
id_is o k e = ap (λ n. record { 0 = n }) e

pub at_other : (objects : List Object) (o k : Id) (y : Object) → k ≢ o → object_at (slice_set objects o.0 y) k ≡ object_at objects k
at_other objects o k y ne = set_other objects o.0 k.0 y (λ e. ne (id_is k o e))

-- The name that the next object gets.
abbrev pub next_id : List Object → Id
next_id objects = record { 0 = length objects }

pub at_older : (objects : List Object) (words : ℕ) (cell : Cell Value) (k : Id) → k ≢ next_id objects → object_at (create objects words cell) k ≡ object_at objects k
at_older objects words cell k ne = get_more objects (new_object cell) k.0 (λ e. ne (id_is k (next_id objects) e))

pub at_new : (objects : List Object) (words : ℕ) (cell : Cell Value) → object_at (create objects words cell) (next_id objects) ≡ Some (new_object cell)
at_new objects words cell = get_last objects (new_object cell)

pub at_past : (objects : List Object) → object_at objects (next_id objects) ≡ None
at_past objects = get_past objects

pub not_past : (objects : List Object) (o : Id) (x : Object) → object_at objects o ≡ Some x → o ≢ next_id objects
not_past objects o x found e = let none : object_at objects o ≡ None = ap (λ k. object_at objects k) e ∙ at_past objects in cc (none, found)

-- An object that has an access type is there.
pub record IsPresent (objects : List Object) (o : Id) (t : ℕ) : Type 0 where
  pub object : Object
  pub found : object_at objects o ≡ Some object
  pub there : is_there object.stage ≡ true
  pub access : object.cell.access ≡ t

present_if : (b : Bool) (x t : ℕ) → (if b then Some x else None) ≡ Some t → (b ≡ true) × (x ≡ t)
present_if true x t e = (refl, cc e)
present_if false x t e = absurd (cc e)

pub present_at : (objects : List Object) (o : Id) (t : ℕ) → access_at objects o ≡ Some t → IsPresent objects o t
present_at objects o t e = go (object_at objects o) refl e
  where
    go : (object : Option Object) → object_at objects o ≡ object → access_in object ≡ Some t → IsPresent objects o t
    go None is e = absurd (cc e)
    go (Some object) is e = let h = present_if (is_there object.stage) object.cell.access t e in record { object = object; found = is; there = h.0; access = h.1 }

-- What a component of an object that is there holds.
pub component_there : (object : Object) (c : ℕ) → is_there object.stage ≡ true → component_in (Some object) c ≡ slice_index_or object.cell.values c Null
component_there object c e = rw e refl
