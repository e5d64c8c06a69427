-- The object of a name stays where a component gets a value, where a new one comes to be, and where another one changes.

use Rattle.std.proofs.Common.{◌≡◌, ◌≢◌, ◌==◌, false, ℕ, zero, suc, ◌+◌, List, [], ◌∷◌, ◌++◌, Option, Some, None, refl, sym, ap, ◌∙◌, inl, inr}
use Rattle.std.specs.List.{slice_get, slice_set}
use Rattle.std.proofs.lemmas.Bool.Decides.{eqb_tells}
use Rattle.ada_meaning.specs.declared.state.Id.{Id}
use Rattle.ada_meaning.specs.declared.state.Stage.TheVariants.{Existing}
use Rattle.ada_meaning.specs.declared.state.Value.{Value}
use Rattle.ada_meaning.specs.declared.state.Value.TheVariants.{Null, Names, Scalar, Part}
use Rattle.ada_meaning.specs.Heap.{Cell}
use Rattle.ada_meaning.specs.Step.{stored_from}
use Rattle.ada_meaning.specs.Named.{Object, named, object_at, changed, new_object, create, filled, store, on_object}
use Rattle.ada_tracked.specs.Seen.{IsOther}
use Rattle.ada_untouched.proofs.Heaps.{set_here, set_there}
use Rattle.ada_beside.specs.Law.{Remains}

-- What is in a list is there once more comes behind.
add_there : (h : List Object) (x y : Object) (i : ℕ) → slice_get h i ≡ Some y → slice_get (h ++ x ∷ []) i ≡ Some y
add_there [] x y i is = absurd (cc)
add_there (z ∷ h) x y zero is = is
add_there (z ∷ h) x y (suc i) is = add_there h x y i is

-- Where nothing changes, it stays.
pub none_changes : (o : Id) (h : List Object) → Remains o h h
none_changes o h x is exists = (x, is, exists)

module _ (h : List Object) (c : ℕ) (u : Value) (p : Id) (x : Object) (there : object_at h p ≡ Some x) where
  -- Each object that exists does so once a component of one of them has another value.
  set_stays :
      (o : Id) (y : Object) → object_at h o ≡ Some y → y.stage ≡ Existing
      → (z : Object) × (object_at (slice_set h p.0 (filled c u x)) o ≡ Some z) × (z.stage ≡ Existing)
  set_stays o y is exists =
      elim (eqb_tells o.0 p.0) [
        | inl one ↦
            (let found : Some x ≡ Some y = sym there ∙ ap (slice_get h) (sym one.1) ∙ is in
            let same : x ≡ y = cc in
            let after = slice_set h p.0 (filled c u x) in
            (filled c u x, ap (slice_get after) one.1 ∙ set_here h p.0 x (filled c u x) there, ap (λ (z : Object). z.stage) same ∙ exists))
        | inr apart ↦ (y, set_there h p.0 o.0 (filled c u x) apart.1 ∙ is, exists)
      ]

-- It stays where the object of a name, if there is one, gets another value in a component.
changed_stays : (o : Id) (h : List Object) (c : ℕ) (u : Value) (p : Id) (found : Option Object) → object_at h p ≡ found → Remains o h (changed (filled c u) found h p)
changed_stays o h c u p None there = none_changes o h
changed_stays o h c u p (Some x) there = λ y is exists. set_stays h c u p x there o y is exists

-- It stays where a value is stored in a component.
pub stored_remains : (o : Id) (h : List Object) (v : Value) (c : ℕ) (u : Value) → Remains o h (store h v c u)
stored_remains o h Null c u = none_changes o h
stored_remains o h (Names p) c u = changed_stays o h c u p (object_at h p) refl
stored_remains o h (Scalar a) c u = none_changes o h
stored_remains o h (Part p place) c u = none_changes o h

-- It stays where several are stored one after the other.
pub record_remains : (o : Id) (h : List Object) (v : Value) (c : ℕ) (us : List Value) → Remains o h (stored_from named h v c us)
record_remains o h v c [] = none_changes o h
record_remains o h v c (u ∷ us) = λ x is exists.
    let one = stored_remains o h v c u x is exists in
    record_remains o (store h v c u) v (c + 1) us one.0 one.1 one.2

-- It stays where a new one comes to be.
pub created_remains : (o : Id) (h : List Object) (words : ℕ) (cell : Cell Value) → Remains o h (create h words cell)
created_remains o h words cell x is exists = (x, add_there h (new_object cell) x o.0 is, exists)

-- Numbers that are told apart are so the other way round.
apart_back : (a b : ℕ) → (a == b) ≡ false → b ≢ a
apart_back a b apart = elim (eqb_tells a b) [ inl one ↦ absurd (let same = one.0 in cc (same, apart)) | inr other ↦ (λ same. other.1 (sym same)) ]

-- It stays where another one changes.
other_changed :
    (o : Id) (h : List Object) (change : Object → Object) (p : Id) (found : Option Object) → (p.0 == o.0) ≡ false → Remains o h (changed change found h p)
other_changed o h change p None apart = none_changes o h
other_changed o h change p (Some x) apart = λ y is exists. (y, set_there h p.0 o.0 (change x) (apart_back p.0 o.0 apart) ∙ is, exists)

pub other_remains : (o : Id) (h : List Object) (change : Object → Object) (v : Value) → IsOther o v → Remains o h (on_object change h v)
other_remains o h change Null other = none_changes o h
other_remains o h change (Names p) other = other_changed o h change p (object_at h p) other
other_remains o h change (Scalar a) other = none_changes o h
other_remains o h change (Part p place) other = none_changes o h
