-- Objects by name, after one more, and after one has changed.

use Rattle.std.proofs.Common.{◌≡◌, ◌≢◌, ℕ, zero, suc, List, [], ◌∷◌, ◌++◌, length, refl, ap, ◌⊎◌, inl, inr, arith}
use Rattle.std.specs.Prelude.{Option, Some, None}
use Rattle.std.specs.List.{slice_get, slice_set}

module _ {X : Type 0} where
  pub get_more : (xs : List X) (y : X) (k : ℕ) (x : X) → slice_get xs k ≡ Some x → slice_get (xs ++ y ∷ []) k ≡ Some x
  get_more [] y k x e = absurd (cc e)
  get_more (z ∷ xs) y zero x e = e
  get_more (z ∷ xs) y (suc k) x e = get_more xs y k x e

  pub get_new : (xs : List X) (y : X) → slice_get (xs ++ y ∷ []) (length xs) ≡ Some y
  get_new [] y = refl
  get_new (z ∷ xs) y = get_new xs y

  -- What is there after one more was there before, or is that one.
  pub more_get : (xs : List X) (y : X) (k : ℕ) (x : X) → slice_get (xs ++ y ∷ []) k ≡ Some x → (slice_get xs k ≡ Some x) ⊎ ((k ≡ length xs) × (x ≡ y))
  more_get [] y zero x e = inr (refl, (cc e))
  more_get [] y (suc k) x e = absurd (cc e)
  more_get (z ∷ xs) y zero x e = inl e
  more_get (z ∷ xs) y (suc k) x e = elim (more_get xs y k x e) [ inl h ↦ inl h | inr h ↦ inr (ap suc h.0, h.1) ]

  -- Nothing has the next name.
  pub get_past : (xs : List X) (x : X) → slice_get xs (length xs) ≡ Some x → ⊥
  get_past [] x e = cc e
  get_past (z ∷ xs) x e = get_past xs x e

  pub set_other : (xs : List X) (o k : ℕ) (y : X) → k ≢ o → slice_get (slice_set xs o y) k ≡ slice_get xs k
  set_other [] o k y ne = refl
  set_other (x ∷ xs) zero zero y ne = absurd (ne refl)
  set_other (x ∷ xs) zero (suc k) y ne = refl
  set_other (x ∷ xs) (suc o) zero y ne = refl
  set_other (x ∷ xs) (suc o) (suc k) y ne = set_other xs o k y (λ e. ne (ap suc e))

  pub set_here : (xs : List X) (o : ℕ) (x y : X) → slice_get xs o ≡ Some x → slice_get (slice_set xs o y) o ≡ Some y
  set_here [] o x y e = absurd (cc e)
  set_here (z ∷ xs) zero x y e = refl
  set_here (z ∷ xs) (suc o) x y e = set_here xs o x y e

  -- What is written twice in one place is what was written last.
  pub set_twice : (xs : List X) (i : ℕ) (x y : X) → slice_set (slice_set xs i x) i y ≡ slice_set xs i y
  set_twice [] i x y = refl
  set_twice (z ∷ xs) zero x y = refl
  set_twice (z ∷ xs) (suc i) x y = ap (λ (zs : List X). z ∷ zs) (set_twice xs i x y)

  -- The newest one changes.
  pub set_new : (xs : List X) (x y : X) → slice_set (xs ++ x ∷ []) (length xs) y ≡ xs ++ y ∷ []
  set_new [] x y = refl
  set_new (z ∷ xs) x y = ap (λ (zs : List X). z ∷ zs) (set_new xs x y)

  -- What is read of one more stays, where that is read as nothing is.
  pub read_beside : {Y : Type 0} (read : Option X → Y) (xs : List X) (y : X) → read (Some y) ≡ read None → (k : ℕ) → read (slice_get (xs ++ y ∷ []) k) ≡ read (slice_get xs k)
  read_beside read [] y same zero = same
  read_beside read [] y same (suc k) = refl
  read_beside read (z ∷ xs) y same zero = refl
  read_beside read (z ∷ xs) y same (suc k) = read_beside read xs y same k

  -- What is there after a change is what was written, or was there before.
  pub set_get : (xs : List X) (o k : ℕ) (y z : X) → slice_get (slice_set xs o y) k ≡ Some z → ((k ≡ o) × (z ≡ y)) ⊎ ((k ≢ o) × (slice_get xs k ≡ Some z))
  set_get [] o k y z e = absurd (cc e)
  set_get (x ∷ xs) zero zero y z e = inl (refl, (cc e))
  set_get (x ∷ xs) zero (suc k) y z e = inr (λ h. absurd (omega (arith, h)), e)
  set_get (x ∷ xs) (suc o) zero y z e = inr (λ h. absurd (omega (arith, h)), e)
  set_get (x ∷ xs) (suc o) (suc k) y z e = elim (set_get xs o k y z e) [ inl h ↦ inl (ap suc h.0, h.1) | inr h ↦ inr (λ same. h.0 (omega (arith, same)), h.1) ]
