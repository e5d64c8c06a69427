-- Components of one object that get their values one after another.

use Rattle.std.proofs.Common.{◌≡◌, ℕ, zero, suc, ◌+◌, ◌≤◌, List, [], ◌∷◌, length, Option, Some, None, refl, ap, ◌∙◌, sym, arith}
use Rattle.std.proofs.Math.ListN.{set}
use Rattle.std.specs.List.{slice_get}
use Rattle.std.proofs.lemmas.List.{set_past, length-set}
use Rattle.ada_meaning.specs.declared.state.Id.{Id}
use Rattle.ada_meaning.specs.declared.state.Value.{Value}
use Rattle.ada_meaning.specs.declared.state.Value.TheVariants.{Names}
use Rattle.ada_meaning.specs.Step.{stored_from}
use Rattle.ada_meaning.specs.Named.{Object, object_at, changed, filled, named}
use Rattle.ada_interpreter.specs.Objects.{set_from, filled_from}

-- what comes behind the end is dropped
pub set_from_past : (values : List Value) (first : ℕ) (others : List Value) → length values ≤ first → set_from values first others ≡ values
set_from_past values first [] past = refl
set_from_past values first (v ∷ vs) past = rw (set_past values first v past) (set_from_past values (first + 1) vs (omega (arith, past)))

-- there are as many as before
pub length-set_from : (values : List Value) (first : ℕ) (others : List Value) → length (set_from values first others) ≡ length values
length-set_from values first [] = refl
length-set_from values first (v ∷ vs) = length-set_from (set values first v) (first + 1) vs ∙ length-set values first v

module _ {X : Type 0} where
  set_found : (xs : List X) (i : ℕ) (x : X) → slice_get xs i ≡ Some x → set xs i x ≡ xs
  set_found [] i x here = refl
  set_found (y ∷ xs) zero x here = ap (λ (z : X). z ∷ xs) (sym (search here))
  set_found (y ∷ xs) (suc i) x here = ap (λ (ys : List X). y ∷ ys) (set_found xs i x here)

  found_set : (xs : List X) (i : ℕ) (x y : X) → slice_get xs i ≡ Some x → slice_get (set xs i y) i ≡ Some y
  found_set [] i x y here = absurd (cc)
  found_set (z ∷ xs) zero x y here = refl
  found_set (z ∷ xs) (suc i) x y here = found_set xs i x y here

  set_again : (xs : List X) (i : ℕ) (x y : X) → set (set xs i x) i y ≡ set xs i y
  set_again [] i x y = refl
  set_again (z ∷ xs) zero x y = refl
  set_again (z ∷ xs) (suc i) x y = ap (λ (ys : List X). z ∷ ys) (set_again xs i x y)

stored_by : (objects : List Object) (o : Id) (first : ℕ) (values : List Value) (found : Option Object) → object_at objects o ≡ found → stored_from named objects (Names o) first values ≡ changed (filled_from first values) found objects o
stored_by objects o first [] None here = refl
stored_by objects o first [] (Some object) here = sym (set_found objects o.0 object here)
stored_by objects o first (v ∷ vs) None here = rw here (stored_by objects o (first + 1) vs None here)
stored_by objects o first (v ∷ vs) (Some object) here =
    rw here
    (stored_by (set objects o.0 (filled first v object)) o (first + 1) vs (Some (filled first v object)) (found_set objects o.0 object (filled first v object) here)
    ∙ set_again objects o.0 (filled first v object) (filled_from first (v ∷ vs) object))

-- to store values one after another in an object is to change it once
pub stored_is : (objects : List Object) (o : Id) (first : ℕ) (values : List Value) → stored_from named objects (Names o) first values ≡ changed (filled_from first values) (object_at objects o) objects o
stored_is objects o first values = stored_by objects o first values (object_at objects o) refl
