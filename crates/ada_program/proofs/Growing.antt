-- A set that grows round by round among so many elements: after as many rounds it has stopped.

use Rattle.std.proofs.Common.{◌≡◌, ◌⊎◌, ℕ, ◌<◌, ◌≤◌, zero, suc, Bool, true, false, cond, List, [], ◌∷◌, length, refl, ap, subst, inl, inr, arith}
use Rattle.std.specs.List.{Contains}

-- How many elements of a list are in a set.
abbrev counted : {E : Type 0} → (E → Bool) → List E → ℕ
counted s [] = 0
counted s (x ∷ xs) = cond (s x) (suc (counted s xs)) (counted s xs)

counted_all : {E : Type 0} (xs : List E) → counted (λ x. true) xs ≡ length xs
counted_all [] = refl
counted_all (x ∷ xs) = ap (λ n. suc n) (counted_all xs)

at_most : (a b : Bool) (m n : ℕ) → (a ≡ true → b ≡ true) → m ≤ n → cond a (suc m) m ≤ cond b (suc n) n
at_most true true m n h le = omega (arith, le)
at_most true false m n h le = absurd (cc (h refl))
at_most false true m n h le = omega (arith, le)
at_most false false m n h le = le

-- A larger set has no fewer of them.
no_fewer : {E : Type 0} (s t : E → Bool) → ((x : E) → s x ≡ true → t x ≡ true) → (xs : List E) → counted s xs ≤ counted t xs
no_fewer s t w [] = omega arith
no_fewer s t w (x ∷ xs) = at_most (s x) (t x) (counted s xs) (counted t xs) (w x) (no_fewer s t w xs)

more_here : (a b : Bool) (m n : ℕ) → (a ≡ true → b ≡ true) → m ≤ n →
    (cond a (suc m) m < cond b (suc n) n) ⊎ ((m < n → cond a (suc m) m < cond b (suc n) n) × (b ≡ true → a ≡ true))
more_here true true m n h le = inr (λ lt. omega (arith, lt), λ is. refl)
more_here true false m n h le = absurd (cc (h refl))
more_here false true m n h le = inl (omega (arith, le))
more_here false false m n h le = inr (λ lt. lt, λ is. is)

with_first : {E : Type 0} (P : E → Type 0) (x : E) (xs : List E) → P x → ((y : E) → Contains xs y → P y) → (y : E) → Contains (x ∷ xs) y → P y
with_first P x xs here behind y (zero, lt, is) = subst P is here
with_first P x xs here behind y (suc k, lt, is) = behind y (k, omega (arith, lt), is)

-- It has more, or no others.
more_or_same : {E : Type 0} (s t : E → Bool) → ((x : E) → s x ≡ true → t x ≡ true) → (xs : List E) →
    (counted s xs < counted t xs) ⊎ ((x : E) → Contains xs x → t x ≡ true → s x ≡ true)
more_or_same s t w [] = inr (λ x (k, lt, is). absurd (omega (arith, lt)))
more_or_same {E} s t w (x ∷ xs) = elim (more_here (s x) (t x) (counted s xs) (counted t xs) (w x) (no_fewer s t w xs)) [
  | inl more ↦ inl more
  | inr r ↦ elim (more_or_same s t w xs) [
    | inl more ↦ inl (r.0 more)
    | inr same ↦ inr (with_first (λ (y : E). t y ≡ true → s y ≡ true) x xs r.1 same)
  ]
]

-- A set with so many has each.
has_each : {E : Type 0} (s : E → Bool) (xs : List E) → length xs ≤ counted s xs → (x : E) → Contains xs x → s x ≡ true
has_each s xs all x has = elim (more_or_same s (λ x. true) (λ x is. refl) xs) [
  | inl more ↦ let n = counted_all xs in absurd (omega (arith, all, more, n))
  | inr same ↦ same x has refl
]

-- Each round has what the one before it had, and elements of a list alone; where one has no more than the one before it, the next one has no more than it.
pub record Rounds {E : Type 0} (xs : List E) (round : ℕ → E → Bool) : Type 0 where
  pub grows : (n : ℕ) (x : E) → round n x ≡ true → round (suc n) x ≡ true
  pub listed : (n : ℕ) (x : E) → round (suc n) x ≡ true → Contains xs x
  pub stops : (n : ℕ) → ((x : E) → round (suc n) x ≡ true → round n x ≡ true) → (x : E) → round (suc (suc n)) x ≡ true → round (suc n) x ≡ true

-- After so many rounds there are as many elements, or it has stopped.
as_many_or_stopped : {E : Type 0} (xs : List E) (round : ℕ → E → Bool) → Rounds xs round → (n : ℕ) →
    (n ≤ counted (round n) xs) ⊎ ((x : E) → round (suc n) x ≡ true → round n x ≡ true)
as_many_or_stopped xs round r zero = inl (omega arith)
as_many_or_stopped xs round r (suc n) = elim (as_many_or_stopped xs round r n) [
  | inl many ↦ elim (more_or_same (round n) (round (suc n)) (r.grows n) xs) [
    | inl more ↦ inl (omega (arith, many, more))
    | inr same ↦ inr (r.stops n (λ x h. same x (r.listed n x h) h))
  ]
  | inr stopped ↦ inr (r.stops n stopped)
]

-- So it has stopped after as many rounds as there are elements.
pub has_stopped : {E : Type 0} (xs : List E) (round : ℕ → E → Bool) → Rounds xs round →
    (x : E) → round (suc (length xs)) x ≡ true → round (length xs) x ≡ true
has_stopped xs round r x h = elim (as_many_or_stopped xs round r (length xs)) [
  | inl many ↦ has_each (round (length xs)) xs many x (r.listed (length xs) x h)
  | inr stopped ↦ stopped x h
]
