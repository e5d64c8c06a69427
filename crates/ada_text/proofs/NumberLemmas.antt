-- Numbers, byte by byte.
use Rattle.std.proofs.Common.{◌≡◌, ℕ, suc, ◌+◌, ◌-◌, ◌*◌, ◌^◌, ◌<◌, ◌≤◌, List, [], ◌∷◌, length, get_or, drop, cond, true, false, Bool, ◌&&◌, ◌||◌, eqb, refl, zero-add, arith}
use Rattle.std.proofs.Math.Nat.{pow-suc, one-le-pow, le-mul_of_pos_right}
use Rattle.std.proofs.Math.Numerals.{one-add}
use Rattle.std.proofs.lemmas.List.{drop_more, drop_all}
use Rattle.std.proofs.lemmas.List.Sums.{sum_by-cons}
use Rattle.ada_text.specs.Bytes.{is_digit}
use Rattle.ada_text.specs.Number.{begins_with_digit, number_len, digit_count, value}

pub number_len-drop : (s : List ℕ) (i : ℕ) → i < length s → number_len (drop i s) ≡ cond (is_digit (get_or s i 0) || (eqb (get_or s i 0) 95 && begins_with_digit (drop (i + 1) s))) (1 + number_len (drop (i + 1) s)) 0
unfolding number_len
number_len-drop s i l = rw (drop_more s i 0 l) refl

pub number_len-drop_all : (s : List ℕ) (i : ℕ) → length s ≤ i → number_len (drop i s) ≡ 0
unfolding number_len
number_len-drop_all s i l = rw (drop_all i s l) refl

pub number_len-le : (s : List ℕ) → number_len s ≤ length s
unfolding number_len
number_len-le [] = omega arith
number_len-le (b ∷ bs) = bounded (is_digit b || (eqb b 95 && begins_with_digit bs)) (number_len-le bs)
  where
    bounded : (r : Bool) → number_len bs ≤ length bs → cond r (1 + number_len bs) 0 ≤ suc (length bs)
    bounded true h = omega arith
    bounded false h = omega arith

pub ruleset lengths = (number_len-drop, number_len-drop_all, number_len-le)

-- a byte more of the digits so far
pub value-drop : (s : List ℕ) (i : ℕ) → i < length s → value (drop i s) ≡ cond (is_digit (get_or s i 0)) ((get_or s i 0 - 48) * 10 ^ digit_count (drop (i + 1) s) + value (drop (i + 1) s)) (value (drop (i + 1) s))
unfolding value
value-drop s i l = rw (drop_more s i 0 l) refl

pub digit_count-drop : (s : List ℕ) (i : ℕ) → i < length s → digit_count (drop i s) ≡ cond (is_digit (get_or s i 0)) 1 0 + digit_count (drop (i + 1) s)
digit_count-drop s i l = rw (drop_more s i 0 l) (sum_by-cons (λ x. cond (is_digit x) 1 0) (get_or s i 0) (drop (i + 1) s))

pub value-drop_all : (s : List ℕ) (i : ℕ) → length s ≤ i → (value (drop i s) ≡ 0) × (digit_count (drop i s) ≡ 0)
unfolding value
value-drop_all s i l = rw (drop_all i s l) (refl, refl)

-- the number so far, in front of the digits that are left
unfoldable pub worth : ℕ → List ℕ → ℕ
worth so_far rest = so_far * 10 ^ digit_count rest + value rest

pub worth-digit : (s : List ℕ) (i so_far : ℕ) → i < length s → is_digit (get_or s i 0) ≡ true → worth so_far (drop i s) ≡ worth (so_far * 10 + (get_or s i 0 - 48)) (drop (i + 1) s)
unfolding worth
worth-digit s i n l e =
    let d = get_or s i 0 - 48 in
    let k = digit_count (drop (i + 1) s) in
    let r = value (drop (i + 1) s) in
    let here : value (drop i s) ≡ d * 10 ^ k + r = rw e at (value-drop s i l) in
    let more : digit_count (drop i s) ≡ 1 + k = rw e at (digit_count-drop s i l) in
    rw (here, more) (shift n d k r)
  where
    shift : (n d k r : ℕ) → n * 10 ^ (1 + k) + (d * 10 ^ k + r) ≡ (n * 10 + d) * 10 ^ k + r
    shift n d k r = rw (one-add, pow-suc) (omega arith)

pub worth-other : (s : List ℕ) (i so_far : ℕ) → i < length s → is_digit (get_or s i 0) ≡ false → worth so_far (drop i s) ≡ worth so_far (drop (i + 1) s)
unfolding worth
worth-other s i n l e =
    let here : value (drop i s) ≡ value (drop (i + 1) s) = rw e at (value-drop s i l) in
    let more : digit_count (drop i s) ≡ 0 + digit_count (drop (i + 1) s) = rw e at (digit_count-drop s i l) in
    rw (here, more, zero-add) refl

pub worth-drop_all : (s : List ℕ) (i so_far : ℕ) → length s ≤ i → worth so_far (drop i s) ≡ so_far
unfolding worth
worth-drop_all s i n l = rw ((value-drop_all s i l).0, (value-drop_all s i l).1) (omega arith)

pub worth-le : (so_far : ℕ) (rest : List ℕ) → so_far ≤ worth so_far rest
unfolding worth
worth-le n rest = omega (arith, le-mul_of_pos_right {m = 10 ^ digit_count rest} n (one-le-pow (digit_count rest) 10 (omega arith)))

pub worth-none : (s : List ℕ) → worth 0 s ≡ value s
unfolding worth
worth-none s = omega arith

pub ruleset steps = (worth-digit, worth-other, worth-drop_all, worth-le, worth-none)
