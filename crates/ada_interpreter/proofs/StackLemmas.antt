-- A list that is kept oldest first, and read newest first.

use Rattle.std.proofs.Common.{◌≡◌, ℕ, ◌+◌, ◌-◌, ◌≤◌, inl, inr, arith, length, take, drop, List, [], ◌∷◌, ◌++◌, reverse, ap, ◌∙◌, sym}
use Rattle.std.proofs.Math.ListN.{set}
use Rattle.std.proofs.Math.Seq.{set-append_seam}
use Rattle.std.proofs.lemmas.Bool.{cases_lt}
use Rattle.std.proofs.lemmas.List.{reverse-append, reverse-reverse, length-reverse, length-drop, take-append-drop, take_at, drop_at, take_all, drop_all}

pub newest : {X : Type 0} (xs : List X) (x : X) → reverse (xs ++ x ∷ []) ≡ x ∷ reverse xs
newest xs x = reverse-append xs (x ∷ [])

pub ruleset newest_first = (newest, length-reverse)

module _ {X : Type 0} where
  parts : (xs : List X) (kept : ℕ) → reverse xs ≡ reverse (drop kept xs) ++ reverse (take kept xs)
  parts xs kept = ap (λ (ys : List X). reverse ys) (sym (take-append-drop kept xs)) ∙ reverse-append (take kept xs) (drop kept xs)

  size : (xs : List X) (count : ℕ) → count ≤ length xs → length (reverse (drop (length xs - count) xs)) ≡ count
  size xs count h = length-reverse (drop (length xs - count) xs) ∙ length-drop (length xs - count) xs ∙ (omega arith)

  -- the newest ones, read newest first, are the last ones of what is kept oldest first
  taken_newest : (xs : List X) (count : ℕ) → reverse (drop (length xs - count) xs) ≡ take count (reverse xs)
  taken_newest xs count = elim (cases_lt (length xs) count) [
    | inl few ↦
        let none : length xs - count ≡ 0 = omega arith in
        rw none (sym (take_all count (reverse xs) (omega (arith, length-reverse xs))))
    | inr many ↦
        sym
        (ap (λ (ys : List X). take count ys) (parts xs (length xs - count)) ∙ take_at (reverse (drop (length xs - count) xs)) (reverse (take (length xs - count) xs)) count (size xs count many))
  ]

  -- and the others are the first ones
  left_older : (xs : List X) (count : ℕ) → reverse (take (length xs - count) xs) ≡ drop count (reverse xs)
  left_older xs count = elim (cases_lt (length xs) count) [
    | inl few ↦
        let none : length xs - count ≡ 0 = omega arith in
        rw none (sym (drop_all count (reverse xs) (omega (arith, length-reverse xs))))
    | inr many ↦
        sym
        (ap (λ (ys : List X). drop count ys) (parts xs (length xs - count)) ∙ drop_at (reverse (drop (length xs - count) xs)) (reverse (take (length xs - count) xs)) count (size xs count many))
  ]

  -- so what is taken off the end is the newest ones in the order in which they were put on
  pub taken_in_order : (xs newest_first : List X) (kept count : ℕ) → reverse xs ≡ newest_first → kept ≡ length xs - count → drop kept xs ≡ reverse (take count newest_first)
  taken_in_order xs ys kept count view is =
      rw is (sym (reverse-reverse (drop (length xs - count) xs)) ∙ ap (λ (zs : List X). reverse zs) (taken_newest xs count) ∙ ap (λ (zs : List X). reverse (take count zs)) view)

  pub left_in_order : (xs newest_first : List X) (kept count : ℕ) → reverse xs ≡ newest_first → kept ≡ length xs - count → reverse (take kept xs) ≡ drop count newest_first
  left_in_order xs ys kept count view is = rw is (left_older xs count ∙ ap (λ (zs : List X). drop count zs) view)

module _ {X : Type 0} where
  set_last : (zs : List X) (n : ℕ) (y x : X) → n ≡ length (reverse zs) → reverse (set (reverse zs ++ y ∷ []) n x) ≡ x ∷ zs
  set_last zs n y x is =
      rw (is, set-append_seam (reverse zs) y [] x) (reverse-append (reverse zs) (x ∷ []) ∙ ap (λ (l : List X). x ∷ l) (reverse-reverse zs))

  set_by_view : (ys : List X) (n : ℕ) (x : X) → n + 1 ≡ length ys → reverse (set (reverse ys) n x) ≡ set ys 0 x
  set_by_view [] n x is = absurd (omega arith)
  set_by_view (y ∷ zs) n x is =
      rw (reverse-append (y ∷ []) zs) (set_last zs n y x (omega (arith, length-reverse zs)))

  -- what is set at the end of a list that is kept oldest first is the newest
  pub set_newest : (xs ys : List X) (n : ℕ) (x : X) → reverse xs ≡ ys → n + 1 ≡ length xs → reverse (set xs n x) ≡ set ys 0 x
  set_newest xs ys n x view is =
      let back : reverse ys ≡ xs = ap (λ (l : List X). reverse l) (sym view) ∙ reverse-reverse xs in
      let size : n + 1 ≡ length ys = is ∙ sym (length-reverse xs) ∙ ap (λ (l : List X). length l) view in
      ap (λ (l : List X). reverse (set l n x)) (sym back) ∙ set_by_view ys n x size
