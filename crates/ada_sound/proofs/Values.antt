-- Lists of values and of holds: what is read where something was written, or elsewhere.

use Rattle.std.proofs.Common.{◌≡◌, ◌≢◌, ℕ, zero, suc, List, [], ◌∷◌, refl, ap, ◌⊎◌, inl, inr, arith}
use Rattle.std.specs.List.{slice_set, slice_index_or}
use Rattle.ada_flow.specs.declared.rule.Hold.{Hold}
use Rattle.ada_flow.specs.declared.rule.Hold.TheVariants as hold
use Rattle.ada_flow.specs.Flow.{Holds, hold_at}
use Rattle.ada_sound.proofs.Fits.{IsOwn}

-- Reading a list where it was written, or elsewhere.
pub read_same : {X : Type 0} (xs : List X) (i : ℕ) (v d : X) → (slice_index_or (slice_set xs i v) i d ≡ v) ⊎ (slice_index_or (slice_set xs i v) i d ≡ d)
read_same [] i v d = inr refl
read_same (x ∷ xs) zero v d = inl refl
read_same (x ∷ xs) (suc i) v d = read_same xs i v d

pub read_other : {X : Type 0} (xs : List X) (i k : ℕ) (v d : X) → k ≢ i → slice_index_or (slice_set xs i v) k d ≡ slice_index_or xs k d
read_other [] i k v d ne = refl
read_other (x ∷ xs) zero zero v d ne = absurd (ne refl)
read_other (x ∷ xs) zero (suc k) v d ne = refl
read_other (x ∷ xs) (suc i) zero v d ne = refl
read_other (x ∷ xs) (suc i) (suc k) v d ne = read_other xs i k v d (λ e. ne (ap suc e))

-- Two numbers are one or two.
pub same_or_not : (a b : ℕ) → (a ≡ b) ⊎ (a ≢ b)
same_or_not zero zero = inl refl
same_or_not zero (suc b) = inr (λ e. absurd (omega (arith, e)))
same_or_not (suc a) zero = inr (λ e. absurd (omega (arith, e)))
same_or_not (suc a) (suc b) = elim (same_or_not a b) [ inl e ↦ inl (ap suc e) | inr ne ↦ inr (λ e. ne (omega (arith, e))) ]

-- What owns after a hold that owns nothing was written is another variable that owned before.
now_owns : (g h : Hold) → (g ≡ h) ⊎ (g ≡ hold.Lost) → (IsOwn h → ⊥) → IsOwn g → ⊥
now_owns g h (inl e) nothing own = nothing (rw e at own)
now_owns g h (inr e) nothing own = rw e at own

pub other_owner : (holds : Holds) (y x : ℕ) (h : Hold) → (IsOwn h → ⊥) → IsOwn (hold_at (slice_set holds y h) x) → (x ≢ y) × IsOwn (hold_at holds x)
other_owner holds y x h nothing own = go (same_or_not x y)
  where
    go : (x ≡ y) ⊎ (x ≢ y) → (x ≢ y) × IsOwn (hold_at holds x)
    go (inl e) = absurd (now_owns (hold_at (slice_set holds y h) y) h (read_same holds y h hold.Lost) nothing (rw e at own))
    go (inr ne) = (ne, rw (read_other holds y x h hold.Lost ne) at own)

-- A hold is lost.
pub lost_here : (holds : Holds) (y : ℕ) → hold_at (slice_set holds y hold.Lost) y ≡ hold.Lost
lost_here holds y = elim (read_same holds y hold.Lost hold.Lost) [ inl e ↦ e | inr e ↦ e ]
