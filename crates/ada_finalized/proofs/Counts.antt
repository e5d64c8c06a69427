-- How often a number stands among parts.

use Rattle.std.proofs.Common.{◌≡◌, ℕ, zero, suc, ◌+◌, ◌<◌, ◌≤◌, Bool, true, false, ◌==◌, List, [], ◌∷◌, ◌++◌, refl, sym, ap, ◌∙◌, inl, inr, subst, arith}
use Rattle.std.specs.List.{Contains, range_with_len, sum_by}
use Rattle.std.specs.List.Sorted.{IsPermutation}
use Rattle.std.proofs.lemmas.Bool.Decides.{eqb_tells}
use Rattle.std.proofs.lemmas.List.Sums.{sum_by-cons}
use Rattle.std.proofs.lemmas.List.Sorted.{sum_by-IsPermutation}
use Rattle.ada_parts.specs.Part.{Part, numbers}
use Rattle.ada_parts.proofs.Facts.{eq_self, eq_not}

-- One, where this is true.
abbrev pub one_if : Bool → ℕ
one_if true = 1
one_if false = 0

abbrev pub count : ℕ → List Part → ℕ
count n [] = 0
count n (p ∷ ps) = one_if (p.number == n) + count n ps

pub count_append : (n : ℕ) (a b : List Part) → count n (a ++ b) ≡ count n a + count n b
count_append n [] b = omega arith
count_append n (p ∷ a) b = let e = count_append n a b in omega (arith, e)

count_sum : (n : ℕ) (ps : List Part) → count n ps ≡ sum_by (λ (p : Part). one_if (p.number == n)) ps
count_sum n [] = refl
count_sum n (p ∷ ps) =
    let e = count_sum n ps in
    let s = sum_by-cons (λ (p : Part). one_if (p.number == n)) p ps in
    omega (arith, e, s)

pub count_permutation : (n : ℕ) (a b : List Part) → IsPermutation a b → count n b ≡ count n a
count_permutation n a b p = count_sum n b ∙ sum_by-IsPermutation (λ (p : Part). one_if (p.number == n)) a b p ∙ sym (count_sum n a)

-- A number that is among those of parts is counted.
pub count_has : (n : ℕ) (ps : List Part) → Contains (numbers ps) n → 1 ≤ count n ps
count_has n [] (k, lt, is) = absurd (omega (arith, lt))
count_has n (p ∷ ps) (zero, lt, is) = let one : one_if (p.number == n) ≡ 1 = ap (λ (k : ℕ). one_if (k == n)) is ∙ ap one_if (eq_self n) in omega (arith, one)
count_has n (p ∷ ps) (suc k, lt, is) = let more = count_has n ps (k, omega (arith, lt), is) in omega (arith, more)

-- Numbers in order stand there once.
abbrev times : ℕ → List ℕ → ℕ
times n [] = 0
times n (m ∷ ms) = one_if (m == n) + times n ms

count_times : (n : ℕ) (ps : List Part) → count n ps ≡ times n (numbers ps)
count_times n [] = refl
count_times n (p ∷ ps) = ap (λ (k : ℕ). one_if (p.number == n) + k) (count_times n ps)

times_below : (n a m : ℕ) → n < a → times n (range_with_len a m) ≡ 0
times_below n a zero lt = refl
times_below n a (suc m) lt =
    let none = ap one_if (eq_not a n (λ e. absurd (omega (arith, lt, e)))) in
    let more = times_below n (a + 1) m (omega (arith, lt)) in
    omega (arith, none, more)

times_range : (n a m : ℕ) → times n (range_with_len a m) ≤ 1
times_range n a zero = omega arith
times_range n a (suc m) = elim (eqb_tells a n) [ inl h ↦ here h.0 h.1 | inr h ↦ later h.0 (times_range n (a + 1) m) ]
  where
    here : (a == n) ≡ true → a ≡ n → times n (range_with_len a (suc m)) ≤ 1
    here is e =
        let one = ap one_if is in
        let more = times_below n (a + 1) m (omega (arith, e)) in
        omega (arith, one, more)

    later : (a == n) ≡ false → times n (range_with_len (a + 1) m) ≤ 1 → times n (range_with_len a (suc m)) ≤ 1
    later is more =
        let none = ap one_if is in
        omega (arith, none, more)

pub count_once : (n : ℕ) (ps : List Part) (a m : ℕ) → numbers ps ≡ range_with_len a m → count n ps ≤ 1
count_once n ps a m is = subst (λ (k : ℕ). k ≤ 1) (sym (count_times n ps ∙ ap (times n) is)) (times_range n a m)
