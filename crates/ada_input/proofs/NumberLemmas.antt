-- Digits, byte by byte.
use Rattle.std.proofs.Common.{◌≡◌, ℕ, suc, ◌+◌, ◌-◌, ◌*◌, ◌^◌, ◌<◌, ◌≤◌, List, ◌∷◌, length, get_or, drop, take, ◌&&◌, true, false, refl, pos, neg_ℤ, option_map, arith}
use Rattle.std.proofs.Math.Nat.{pow-suc, one-le-pow, le-mul_of_pos_right}
use Rattle.std.proofs.lemmas.List.{drop_more, drop_all, take_all, length-drop}
use Rattle.std.specs.Char.{is_ascii_digit}
use Rattle.std.specs.Str.{all_ascii_digits}
use Rattle.std.specs.Str.Parse.{starts_with_minus}
use Rattle.ada_input.specs.Input.{value, magnitude_of, number_of}

-- the number so far, in front of the digits that are left
unfoldable pub worth : ℕ → List ℕ → ℕ
worth so_far rest = so_far * 10 ^ length rest + value rest

pub worth-cons : (so_far b : ℕ) (bs : List ℕ) → worth so_far (b ∷ bs) ≡ worth (so_far * 10 + (b - 48)) bs
unfolding worth value
worth-cons n b bs = shift n (b - 48) (length bs) (value bs)
  where
    shift : (n d k r : ℕ) → n * 10 ^ suc k + (d * 10 ^ k + r) ≡ (n * 10 + d) * 10 ^ k + r
    shift n d k r = rw pow-suc (omega arith)

pub worth-drop : (s : List ℕ) (i so_far : ℕ) → i < length s → worth so_far (drop i s) ≡ worth (so_far * 10 + (get_or s i 0 - 48)) (drop (i + 1) s)
worth-drop s i n l = rw (drop_more s i 0 l) (worth-cons n (get_or s i 0) (drop (i + 1) s))

pub worth-drop_all : (s : List ℕ) (i so_far : ℕ) → length s ≤ i → worth so_far (drop i s) ≡ so_far
unfolding worth value
worth-drop_all s i n l = rw (drop_all i s l) (omega arith)

pub worth-le : (so_far : ℕ) (rest : List ℕ) → so_far ≤ worth so_far rest
unfolding worth
worth-le n rest = omega (arith, le-mul_of_pos_right {m = 10 ^ length rest} n (one-le-pow (length rest) 10 (omega arith)))

pub worth-none : (s : List ℕ) → worth 0 s ≡ value s
unfolding worth
worth-none s = omega arith

pub digits-drop : (s : List ℕ) (i : ℕ) → i < length s → all_ascii_digits (drop i s) ≡ (is_ascii_digit (get_or s i 0) && all_ascii_digits (drop (i + 1) s))
digits-drop s i l = rw (drop_more s i 0 l) refl

pub digits-drop_all : (s : List ℕ) (i : ℕ) → length s ≤ i → all_ascii_digits (drop i s) ≡ true
digits-drop_all s i l = rw (drop_all i s l) refl

pub ruleset steps = (worth-drop, worth-drop_all, worth-le, worth-none, digits-drop, digits-drop_all)

pub number_of_minus : (w : List ℕ) → starts_with_minus w ≡ true → number_of w ≡ option_map (λ n. neg_ℤ (pos n)) (magnitude_of (2 ^ 31) (drop 1 w))
unfolding number_of
number_of_minus w e = rw e refl

pub number_of_plain : (w : List ℕ) → starts_with_minus w ≡ false → number_of w ≡ option_map pos (magnitude_of (2 ^ 31 - 1) w)
unfolding number_of
number_of_plain w e = rw e refl

-- the slice from the second byte to the end
pub behind_first : (w : List ℕ) → take (length w - 1) (drop 1 w) ≡ drop 1 w
behind_first w = take_all (length w - 1) (drop 1 w) (omega (arith, length-drop 1 w))
