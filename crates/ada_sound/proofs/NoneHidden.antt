-- Heaps in which components of an object are hidden: where none is, nothing changes.

use Rattle.std.proofs.Common.{◌≡◌, ℕ, zero, suc, ◌+◌, List, [], ◌∷◌, Option, Some, None, arith, refl, sym, ap, ◌∙◌}
use Rattle.std.specs.List.{slice_get, slice_set}
use Rattle.ada_meaning.specs.declared.state.Id.{Id}
use Rattle.ada_meaning.specs.Named.{Object, object_at, changed}
use Rattle.ada_tracked.specs.Frames.{shifted, blank_object, blanked}
use Rattle.ada_sound.proofs.CopiedOwners.{hiding}

-- What is seen of an object from its first component on are these components themselves.
pub shifted_none : (components : List ℕ) → shifted 0 components ≡ components
shifted_none [] = refl
shifted_none (c ∷ cs) =
    let here : 0 + c ≡ c = omega arith in
    ap (λ (d : ℕ). d ∷ shifted 0 cs) here ∙ ap (λ (ds : List ℕ). c ∷ ds) (shifted_none cs)

-- A list in which an element is put in its own place is the same list.
pub set_itself : {X : Type 0} (xs : List X) (i : ℕ) (x : X) → slice_get xs i ≡ Some x → slice_set xs i x ≡ xs
set_itself [] i x at = refl
set_itself (y ∷ ys) zero x at = let one : y ≡ x = cc at in ap (λ (z : _). z ∷ ys) (sym one)
set_itself (y ∷ ys) (suc i) x at = ap (λ (zs : List _). y ∷ zs) (set_itself ys i x at)

-- Where no component is hidden, the heap is as it is.
pub blanked_none : (o : Id) (heap : List Object) → blanked (hiding [] o) heap ≡ heap
blanked_none o heap = by (object_at heap o) refl
  where
    by : (found : Option Object) → object_at heap o ≡ found → changed (blank_object []) found heap o ≡ heap
    by None at = refl
    by (Some x) at = set_itself heap o.0 x at
