-- Quotients, remainders and moduli: there is one of each.
use Rattle.std.proofs.Common.{◌≡◌, ◌≢◌, ◌⊎◌, ℕ, zero, suc, ◌+◌, ◌*◌, ◌/◌, ◌^◌, ◌<◌, ◌≤◌, refl, sym, ap, subst, ◌∙◌, inl, inr, arith, ℤ, pos, negsuc, neg_ℤ, ◌+ℤ◌, ◌-ℤ◌, ◌*ℤ◌, ◌≤ℤ◌, ◌<ℤ◌, unsigned_abs, int_div, int_rem, FitsSigned, w32}
use Rattle.std.proofs.lemmas.Int.{ints, by_lt_z, quot-rem, rem_below, unsigned_abs-mul}
use Rattle.std.proofs.Math.Nat.{mod-le, div-le_self}
use borrow.Author.Differences.{up, down, sum_is_lem, neg_is}
use Rattle.ada_values.specs.Operators.{first_integer, IsInRange, HasSign, HaveOppositeSigns, IsSplit, IsQuotient, IsRemainder, IsModulus}

-- Integer's range is that of an `i32`.
pub fits_in_range : (z : ℤ) → FitsSigned w32 z → IsInRange z
fits_in_range z h = (omega (arith, ints), omega (arith, ints))

pub in_range_fits : (z : ℤ) → IsInRange z → FitsSigned w32 z
in_range_fits z h = omega (arith, ints, h.0, h.1)

-- What is not 0 has an absolute value above 0.
pub abs_above : (b : ℤ) → b ≢ pos 0 → 0 < unsigned_abs b
abs_above b h = omega (arith, ints)

rem_sign : (a b : ℤ) → HasSign (int_rem a b) a
rem_sign (pos a) b = (λ _. omega (arith, ints), λ h. omega (arith, ints, mod-le a (unsigned_abs b)))
rem_sign (negsuc a) b = (λ h. omega (arith, ints), λ _. omega (arith, ints))

-- The quotient that is rounded toward zero, and its remainder.
pub divided : (a b : ℤ) → b ≢ pos 0 → IsSplit a b (int_div a b) (int_rem a b) a
divided a b h = record { whole = sym (quot-rem a b); small = rem_below a b (abs_above b h); sign = rem_sign a b }

-- A product with a difference.
minus-mul : (n k b : ℤ) → (n -ℤ k) *ℤ b ≡ n *ℤ b -ℤ k *ℤ b
minus-mul n k b =
    let d : up (n -ℤ k) + down n + up k ≡ down (n -ℤ k) + up n + down k = omega (arith, sum_is_lem n (neg_ℤ k), neg_is k) in
    let e = ap (λ x. x * up b) d in
    let f = ap (λ x. x * down b) d in
    omega (arith, ints)

-- A number is not below 0, or not above it.
pub by_sign : (s : ℤ) → (pos 0 ≤ℤ s) ⊎ (s ≤ℤ pos 0)
by_sign (pos n) = inl (omega (arith, ints))
by_sign (negsuc n) = inr (omega (arith, ints))

near_above : (b r t : ℤ) → pos 0 ≤ℤ r → pos 0 ≤ℤ t → unsigned_abs r < unsigned_abs b → unsigned_abs t < unsigned_abs b → unsigned_abs (t -ℤ r) < unsigned_abs b
near_above b r t p q h k = omega (arith, ints)

near_below : (b r t : ℤ) → r ≤ℤ pos 0 → t ≤ℤ pos 0 → unsigned_abs r < unsigned_abs b → unsigned_abs t < unsigned_abs b → unsigned_abs (t -ℤ r) < unsigned_abs b
near_below b r t p q h k = omega (arith, ints)

-- Two remainders of one sign are nearer to one another than the divisor is long.
near : (a b n r k t s : ℤ) → IsSplit a b n r s → IsSplit a b k t s → unsigned_abs (t -ℤ r) < unsigned_abs b
near a b n r k t s x y = elim (by_sign s) [
  | inl p ↦ near_above b r t (x.sign.0 p) (y.sign.0 p) x.small y.small
  | inr p ↦ near_below b r t (x.sign.1 p) (y.sign.1 p) x.small y.small
]

no_times : (c d : ℕ) → c * d < d → c ≡ 0
no_times zero d h = refl
no_times (suc c) d h = absurd (omega arith)

-- Two splits with one sign are the same one.
pub same_split : (a b n r k t s : ℤ) → IsSplit a b n r s → IsSplit a b k t s → (n ≡ k) × (r ≡ t)
same_split a b n r k t s x y =
    let whole = x.whole in
    let other = y.whole in
    let e : (n -ℤ k) *ℤ b ≡ t -ℤ r = omega (arith, ints, minus-mul n k b) in
    let size = sym (unsigned_abs-mul (n -ℤ k) b) ∙ ap unsigned_abs e in
    let small = near a b n r k t s x y in
    let none : unsigned_abs (n -ℤ k) ≡ 0 = no_times (unsigned_abs (n -ℤ k)) (unsigned_abs b) (omega arith) in
    let same : n ≡ k = omega (arith, ints) in
    let again = subst (λ z. a ≡ z *ℤ b +ℤ r) same whole in
    (same, omega (arith, ints))

-- What is split has a divisor other than 0.
pub split_nonzero : (a b n r s : ℤ) → IsSplit a b n r s → b ≢ pos 0
split_nonzero a b n r s x e = let small = subst (λ z. unsigned_abs r < unsigned_abs z) e x.small in omega arith

-- A quotient is the one that is rounded toward zero.
pub quotient_is : (a b q : ℤ) → IsQuotient a b q → q ≡ int_div a b
quotient_is a b q h = (same_split a b q h.0 (int_div a b) (int_rem a b) a h.1 (divided a b (split_nonzero a b q h.0 a h.1))).0

pub remainder_is : (a b r : ℤ) → IsRemainder a b r → r ≡ int_rem a b
remainder_is a b r h = (same_split a b h.0 r (int_div a b) (int_rem a b) a h.1 (divided a b (split_nonzero a b h.0 r a h.1))).1

pub one_quotient : (a b p q : ℤ) → IsQuotient a b p → IsQuotient a b q → p ≡ q
one_quotient a b p q h k = (same_split a b p h.0 q k.0 a h.1 k.1).0

pub one_remainder : (a b r t : ℤ) → IsRemainder a b r → IsRemainder a b t → r ≡ t
one_remainder a b r t h k = (same_split a b h.0 r k.0 t a h.1 k.1).1

pub one_modulus : (a b m n : ℤ) → IsModulus a b m → IsModulus a b n → m ≡ n
one_modulus a b m n h k = (same_split a b h.0 m k.0 n b h.1 k.1).1

-- A remainder that already has the sign of the divisor is the modulus.
pub kept_modulus : (a b r : ℤ) → IsRemainder a b r → HasSign r b → IsModulus a b r
kept_modulus a b r h k = (h.0, record { whole = h.1.whole; small = h.1.small; sign = k })

pred-mul : (q b : ℤ) → (q -ℤ pos 1) *ℤ b ≡ q *ℤ b -ℤ b
pred-mul q b = let e = minus-mul q (pos 1) b in omega (arith, ints)

-- A remainder below 0 of a divisor above 0 is one divisor short of the modulus.
pub raised_modulus : (a b r : ℤ) → IsRemainder a b r → r <ℤ pos 0 → pos 0 <ℤ b → IsModulus a b (r +ℤ b)
raised_modulus a b r h p q =
    let whole = h.1.whole in
    let small = h.1.small in
    (h.0 -ℤ pos 1, record { whole = omega (arith, ints, pred-mul h.0 b); small = omega (arith, ints); sign = (λ _. omega (arith, ints), λ u. absurd (omega (arith, ints))) })

-- The same above and below 0.
pub lowered_modulus : (a b r : ℤ) → IsRemainder a b r → pos 0 <ℤ r → b <ℤ pos 0 → IsModulus a b (r +ℤ b)
lowered_modulus a b r h p q =
    let whole = h.1.whole in
    let small = h.1.small in
    (h.0 -ℤ pos 1, record { whole = omega (arith, ints, pred-mul h.0 b); small = omega (arith, ints); sign = (λ u. absurd (omega (arith, ints)), λ _. omega (arith, ints)) })

-- Every division by a number other than 0 has a modulus.
pub some_modulus : (a b : ℤ) → b ≢ pos 0 → (m : ℤ) × IsModulus a b m
some_modulus a b h =
    let rest : IsRemainder a b (int_rem a b) = (int_div a b, divided a b h) in
    by (int_rem a b) b rest h
  where
    by : (r d : ℤ) → IsRemainder a d r → d ≢ pos 0 → (m : ℤ) × IsModulus a d m
    by (pos zero) d x k = (pos zero, kept_modulus a d (pos zero) x (λ _. omega (arith, ints), λ _. omega (arith, ints)))
    by (pos (suc r)) (pos d) x k = (pos (suc r), kept_modulus a (pos d) (pos (suc r)) x (λ _. omega (arith, ints), λ u. absurd (omega (arith, ints))))
    by (pos (suc r)) (negsuc d) x k = (pos (suc r) +ℤ negsuc d, lowered_modulus a (negsuc d) (pos (suc r)) x (omega (arith, ints)) (omega (arith, ints)))
    by (negsuc r) (pos d) x k = (negsuc r +ℤ pos d, raised_modulus a (pos d) (negsuc r) x (omega (arith, ints)) (omega (arith, ints)))
    by (negsuc r) (negsuc d) x k = (negsuc r, kept_modulus a (negsuc d) (negsuc r) x (λ u. absurd (omega (arith, ints)), λ _. omega (arith, ints)))

-- Nothing is divided by 0.
pub no_split : (a n r s : ℤ) → ¬ IsSplit a (pos 0) n r s
no_split a n r s x = split_nonzero a (pos 0) n r s x refl

-- The quotient and the remainder make the whole.
pub whole_of : (a b q r : ℤ) → IsQuotient a b q → IsRemainder a b r → a ≡ q *ℤ b +ℤ r
whole_of a b q r h k =
    let same = (same_split a b q h.0 k.0 r a h.1 k.1).0 in
    subst (λ z. a ≡ z *ℤ b +ℤ r) (sym same) k.1.whole

abs_neg : (n : ℕ) → unsigned_abs (neg_ℤ (pos n)) ≡ n
abs_neg zero = refl
abs_neg (suc n) = refl

abs-div : (a b : ℤ) → unsigned_abs (int_div a b) ≡ unsigned_abs a / unsigned_abs b
abs-div (pos a) (pos b) = refl
abs-div (pos a) (negsuc b) = abs_neg (a / suc b)
abs-div (negsuc a) (pos b) = abs_neg (suc a / b)
abs-div (negsuc a) (negsuc b) = refl

-- The quotient of the absolute values is the quotient's.
pub quotient_size : (a b q : ℤ) → IsQuotient a b q → unsigned_abs q ≡ unsigned_abs a / unsigned_abs b
quotient_size a b q h = ap unsigned_abs (quotient_is a b q h) ∙ abs-div a b

neg-mul : (n b : ℤ) → neg_ℤ n *ℤ b ≡ neg_ℤ (n *ℤ b)
neg-mul n b =
    let d = neg_is n in
    let p = ap (λ x. x * up b) d.0 in
    let q = ap (λ x. x * down b) d.0 in
    let r = ap (λ x. x * up b) d.1 in
    let s = ap (λ x. x * down b) d.1 in
    omega (arith, ints)

neg-neg-mul : (n b : ℤ) → neg_ℤ n *ℤ neg_ℤ b ≡ n *ℤ b
neg-neg-mul n b =
    let d = neg_is b in
    let p = ap (λ x. up n * x) d.0 in
    let q = ap (λ x. down n * x) d.0 in
    let r = ap (λ x. up n * x) d.1 in
    let s = ap (λ x. down n * x) d.1 in
    omega (arith, ints, neg-mul n (neg_ℤ b))

neg_sign : (r s : ℤ) → HasSign r s → HasSign (neg_ℤ r) (neg_ℤ s)
neg_sign r s h = (λ p. let q = h.1 (omega (arith, ints)) in omega (arith, ints), λ p. let q = h.0 (omega (arith, ints)) in omega (arith, ints))

neg_left : (a b n r : ℤ) → IsSplit a b n r a → IsSplit (neg_ℤ a) b (neg_ℤ n) (neg_ℤ r) (neg_ℤ a)
neg_left a b n r x =
    let whole = x.whole in
    let small = x.small in
    record { whole = omega (arith, ints, neg-mul n b); small = omega (arith, ints); sign = neg_sign r a x.sign }

neg_right : (a b n r : ℤ) → IsSplit a b n r a → IsSplit a (neg_ℤ b) (neg_ℤ n) r a
neg_right a b n r x =
    let whole = x.whole in
    let small = x.small in
    record { whole = omega (arith, ints, neg-neg-mul n b); small = omega (arith, ints); sign = x.sign }

-- Quotients and remainders of operands with another sign.
pub quotient_of_neg : (a b q : ℤ) → IsQuotient a b q → IsQuotient (neg_ℤ a) b (neg_ℤ q)
quotient_of_neg a b q h = (neg_ℤ h.0, neg_left a b q h.0 h.1)

pub quotient_by_neg : (a b q : ℤ) → IsQuotient a b q → IsQuotient a (neg_ℤ b) (neg_ℤ q)
quotient_by_neg a b q h = (h.0, neg_right a b q h.0 h.1)

pub remainder_of_neg : (a b r : ℤ) → IsRemainder a b r → IsRemainder (neg_ℤ a) b (neg_ℤ r)
remainder_of_neg a b r h = (neg_ℤ h.0, neg_left a b h.0 r h.1)

pub remainder_by_neg : (a b r : ℤ) → IsRemainder a b r → IsRemainder a (neg_ℤ b) r
remainder_by_neg a b r h = (neg_ℤ h.0, neg_right a b h.0 r h.1)

plus-mul : (n k b : ℤ) → (n +ℤ k) *ℤ b ≡ n *ℤ b +ℤ k *ℤ b
plus-mul n k b =
    let d = sum_is_lem n k in
    let e = ap (λ x. x * up b) d in
    let f = ap (λ x. x * down b) d in
    omega (arith, ints)

-- A multiple of the divisor more has the same modulus.
pub modulus_shifted : (a b k m : ℤ) → IsModulus a b m → IsModulus (a +ℤ k *ℤ b) b m
modulus_shifted a b k m h =
    let whole = h.1.whole in
    (h.0 +ℤ k, record { whole = omega (arith, ints, plus-mul h.0 k b); small = h.1.small; sign = h.1.sign })

-- Where the operands' signs agree, the remainder is the modulus.
pub remainder_as_modulus : (a b z : ℤ) → HasSign a b → IsRemainder a b z → IsModulus a b z
remainder_as_modulus a b z h k = kept_modulus a b z k (λ p. k.1.sign.0 (h.0 p), λ p. k.1.sign.1 (h.1 p))

pub modulus_as_remainder : (a b z : ℤ) → HasSign a b → IsModulus a b z → IsRemainder a b z
modulus_as_remainder a b z h k =
    let rest : IsRemainder a b (int_rem a b) = (int_div a b, divided a b (split_nonzero a b k.0 z b k.1)) in
    subst (IsRemainder a b) (one_modulus a b (int_rem a b) z (remainder_as_modulus a b (int_rem a b) h rest) k) rest

-- What is less than an Integer in absolute value is one.
pub small_in_range : (b r : ℤ) → IsInRange b → unsigned_abs r < unsigned_abs b → IsInRange r
small_in_range b r h k = let low = h.0 in let high = h.1 in (omega (arith, ints), omega (arith, ints))

half : (a m : ℕ) → 2 * (a / (m + 2)) ≤ a
half a m = omega arith

first_by_minus_one : (a : ℕ) → IsInRange (negsuc a) → ((negsuc a ≡ first_integer) × (negsuc 0 ≡ neg_ℤ (pos 1))) ⊎ IsInRange (int_div (negsuc a) (negsuc 0))
first_by_minus_one a f = let low = f.0 in by_lt_z (pos (suc a)) (pos (2 ^ 31))
    (λ h. inr (omega (arith, ints, div-le_self (suc a) 1), omega (arith, ints, div-le_self (suc a) 1)))
    (λ h. inl (omega (arith, ints), refl))

-- A quotient of Integers is in range, but for the first Integer divided by -1.
pub quotient_range : (a b : ℤ) → IsInRange a → ((a ≡ first_integer) × (b ≡ neg_ℤ (pos 1))) ⊎ IsInRange (int_div a b)
quotient_range (pos a) (pos b) f = let high = f.1 in inr (omega (arith, ints, div-le_self a b), omega (arith, ints, div-le_self a b))
quotient_range (pos a) (negsuc b) f = let high = f.1 in inr (omega (arith, ints, div-le_self a (suc b)), omega (arith, ints, div-le_self a (suc b)))
quotient_range (negsuc a) (pos b) f = let low = f.0 in inr (omega (arith, ints, div-le_self (suc a) b), omega (arith, ints, div-le_self (suc a) b))
quotient_range (negsuc a) (negsuc zero) f = first_by_minus_one a f
quotient_range (negsuc a) (negsuc (suc b)) f =
    let low = f.0 in
    let small : 2 * (suc a / suc (suc b)) ≤ suc a = omega (arith, half (suc a) b) in
    inr (omega (arith, ints), omega (arith, ints))

-- The first Integer divided by -1 is out of range.
pub first_overflows : (q : ℤ) × IsQuotient first_integer (neg_ℤ (pos 1)) q × ¬ IsInRange q
first_overflows = (pos (2 ^ 31), (pos 0, record { whole = omega (arith, ints); small = omega arith; sign = (λ _. omega (arith, ints), λ _. omega (arith, ints)) }), λ h. let high = h.1 in omega (arith, ints))

-- Where the remainder's sign is not the divisor's, the modulus is one divisor further.
pub moved_modulus : (a b r : ℤ) → IsRemainder a b r → HaveOppositeSigns r b → IsModulus a b (r +ℤ b)
moved_modulus a b r x (inl h) = raised_modulus a b r x h.0 h.1
moved_modulus a b r x (inr h) = lowered_modulus a b r x h.0 h.1

not_above : (r b : ℤ) → b ≢ pos 0 → ¬ HaveOppositeSigns r b → pos 0 ≤ℤ b → pos 0 ≤ℤ r
not_above r b h n p = by_lt_z r (pos 0) (λ k. absurd (n (inl (k, omega (arith, ints))))) (λ k. k)

not_below : (r b : ℤ) → b ≢ pos 0 → ¬ HaveOppositeSigns r b → b ≤ℤ pos 0 → r ≤ℤ pos 0
not_below r b h n p = by_lt_z (pos 0) r (λ k. absurd (n (inr (k, omega (arith, ints))))) (λ k. k)

-- Where it is, or where there is no remainder, the modulus is the remainder.
pub same_modulus : (a b r : ℤ) → IsRemainder a b r → ¬ HaveOppositeSigns r b → IsModulus a b r
same_modulus a b r x n =
    let nonzero = split_nonzero a b x.0 r a x.1 in
    kept_modulus a b r x (not_above r b nonzero n, not_below r b nonzero n)
