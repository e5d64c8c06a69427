-- One element of a list that changes, in what the list is seen as; and a list that grows by what stands behind its end anyway.

use Rattle.std.proofs.Common.{◌≡◌, ℕ, zero, suc, ◌<◌, List, [], ◌∷◌, ◌++◌, length, map, refl, ap, ◌∙◌, sym, arith}
use Rattle.std.proofs.Math.ListN.{set, get_or}

module _ {X Y : Type 0} (f : X → Y) where
  -- the element at an index, as it is seen
  pub get_form_or : (xs : List X) (i : ℕ) (x : X) (d : Y) → i < length xs → x ≡ get_or xs i x → get_or (map f xs) i d ≡ f x
  get_form_or [] i x d within here = absurd (omega arith)
  get_form_or (y ∷ xs) zero x d within here = ap f (sym here)
  get_form_or (y ∷ xs) (suc i) x d within here = get_form_or xs i x d (omega arith) here

  -- an element becomes what a change makes of it, as it is seen
  pub set_form : (h : Y → Y) (xs : List X) (i : ℕ) (x y : X) (d : Y) → i < length xs → x ≡ get_or xs i x → f y ≡ h (f x) → map f (set xs i y) ≡ set (map f xs) i (h (get_or (map f xs) i d))
  set_form h [] i x y d within here after = absurd (omega arith)
  set_form h (z ∷ xs) zero x y d within here after = ap (λ (t : Y). t ∷ map f xs) (after ∙ ap (λ (u : X). h (f u)) here)
  set_form h (z ∷ xs) (suc i) x y d within here after = ap (λ (ts : List Y). f z ∷ ts) (set_form h xs i x y d (omega arith) here after)

  -- an element that is seen as before
  pub same_form : (xs : List X) (i : ℕ) (x y : X) → i < length xs → x ≡ get_or xs i x → f y ≡ f x → map f (set xs i y) ≡ map f xs
  same_form [] i x y within here after = absurd (omega arith)
  same_form (z ∷ xs) zero x y within here after = ap (λ (t : Y). t ∷ map f xs) (after ∙ ap f here)
  same_form (z ∷ xs) (suc i) x y within here after = ap (λ (ts : List Y). f z ∷ ts) (same_form xs i x y (omega arith) here after)

-- a list that grows by what stands behind its end anyway
pub push_default : {X : Type 0} (xs : List X) (d : X) (i : ℕ) → get_or (xs ++ d ∷ []) i d ≡ get_or xs i d
push_default [] d zero = refl
push_default [] d (suc i) = refl
push_default (x ∷ xs) d zero = refl
push_default (x ∷ xs) d (suc i) = push_default xs d i
