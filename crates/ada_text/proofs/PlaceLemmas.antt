-- How the line and the column grow from byte to byte.
use Rattle.std.proofs.Common.{◌≡◌, ℕ, zero, suc, ◌+◌, ◌<◌, ◌≤◌, List, length, get_or, take, drop, true, false, Bool, not, eqb, refl, ap, sym, ◌∙◌, arith, add-zero, add-suc, add-one}
use Rattle.std.specs.List.{AllPass}
use Rattle.std.proofs.lemmas.List.{length-take, length-drop, get_or-take, get_or-drop}
use Rattle.std.proofs.Math.Nat.{add-sub_cancel}
use Rattle.std.proofs.lemmas.List.Sums.{count_by-le-length, count_by_more_yes, count_by_more_no, suffix_len-le-length, suffix_len-take_no, suffix_len-take_yes}
use Rattle.ada_text.specs.Bytes.{ends_line, stays_on_line}
use Rattle.ada_text.specs.Place.{line_after, column_after, StandsIn}
use Rattle.ada_text.specs.declared.place.Place.{Place}

-- a line feed ends the line
pub line_after-feed : (s : List ℕ) (i : ℕ) → i < length s → get_or s i 0 ≡ 10 → line_after (take (i + 1) s) ≡ line_after (take i s) + 1
unfolding line_after
line_after-feed s i l e = omega (arith, count_by_more_yes ends_line s i 0 l (ap ends_line e))

pub column_after-feed : (s : List ℕ) (i : ℕ) → i < length s → get_or s i 0 ≡ 10 → column_after (take (i + 1) s) ≡ 1
unfolding column_after
column_after-feed s i l e = ap (λ n. 1 + n) (suffix_len-take_no stays_on_line s (i + 1) 0 (omega arith) (omega arith) (rw (add-sub_cancel i 1) (ap stays_on_line e)))

-- on any other byte it goes on
pub line_after-more : (s : List ℕ) (i : ℕ) → i < length s → eqb (get_or s i 0) 10 ≡ false → line_after (take (i + 1) s) ≡ line_after (take i s)
unfolding line_after
line_after-more s i l e = omega (arith, count_by_more_no ends_line s i 0 l e)

pub column_after-more : (s : List ℕ) (i : ℕ) → i < length s → eqb (get_or s i 0) 10 ≡ false → column_after (take (i + 1) s) ≡ column_after (take i s) + 1
unfolding column_after
column_after-more s i l e =
    let more = suffix_len-take_yes stays_on_line s (i + 1) 0 (omega arith) (omega arith) (rw (add-sub_cancel i 1) (ap not e)) in
    omega (arith, rw (add-sub_cancel i 1) at more)

-- neither passes the number of bytes by more than one
pub line_after-le : (s : List ℕ) (i : ℕ) → line_after (take i s) ≤ i + 1
unfolding line_after
line_after-le s i = omega (arith, count_by-le-length ends_line (take i s), length-take i s)

pub column_after-le : (s : List ℕ) (i : ℕ) → column_after (take i s) ≤ i + 1
unfolding column_after
column_after-le s i = omega (arith, suffix_len-le-length stays_on_line (take i s), length-take i s)

-- what a step to the next byte rests on
pub ruleset steps = (line_after-feed, column_after-feed, line_after-more, column_after-more, line_after-le, column_after-le)

-- over bytes none of which ends the line, the line stays, and the column grows with them
pub line_after-run : (s : List ℕ) (i n : ℕ) → i + n ≤ length s → ((k : ℕ) → k < n → eqb (get_or s (i + k) 0) 10 ≡ false) → line_after (take (i + n) s) ≡ line_after (take i s)
line_after-run s i zero l h = rw add-zero refl
line_after-run s i (suc n) l h =
    let more = line_after-more s (i + n) (omega arith) (h n (omega arith)) in
    let so_far = line_after-run s i n (omega arith) (λ k b. h k (omega arith)) in
    rw add-suc (rw add-one at more ∙ so_far)

pub column_after-run : (s : List ℕ) (i n : ℕ) → i + n ≤ length s → ((k : ℕ) → k < n → eqb (get_or s (i + k) 0) 10 ≡ false) → column_after (take (i + n) s) ≡ column_after (take i s) + n
column_after-run s i zero l h = simp add-zero refl
column_after-run s i (suc n) l h =
    let more = column_after-more s (i + n) (omega arith) (h n (omega arith)) in
    let so_far = column_after-run s i n (omega arith) (λ k b. h k (omega arith)) in
    rw add-suc (rw add-one at more ∙ omega (arith, so_far))

-- the same in the words of `past`
on_line : (s : List ℕ) (i n : ℕ) → i + n ≤ length s → AllPass stays_on_line (take n (drop i s)) → (k : ℕ) → k < n → eqb (get_or s (i + k) 0) 10 ≡ false
on_line s i n l h k b =
    let here = h k 0 (simp (length-take, length-drop) (omega arith)) in
    let there = rw (get_or-take n (drop i s) k 0 b, get_or-drop i s k 0) at here in
    not_true (eqb (get_or s (i + k) 0) 10) there
  where
    not_true : (r : Bool) → not r ≡ true → r ≡ false
    not_true true e = cc
    not_true false e = refl

pub StandsIn_run : (s : List ℕ) (p : Place) (n : ℕ) → StandsIn s p → p.at + n ≤ length s → AllPass stays_on_line (take n (drop p.at s)) → StandsIn s (record { at = p.at + n; line = p.line; column = p.column + n })
StandsIn_run s p n here l h = record {
  within = l;
  line = here.line ∙ sym (line_after-run s p.at n l (on_line s p.at n l h));
  column = ap (λ c. c + n) here.column ∙ sym (column_after-run s p.at n l (on_line s p.at n l h));
}
