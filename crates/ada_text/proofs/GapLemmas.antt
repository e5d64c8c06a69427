-- Separators and comments: a byte, or a comment up to its line's end, at a time.
use Rattle.std.proofs.Common.{◌≡◌, ℕ, suc, ◌+◌, ◌<◌, ◌≤◌, List, [], ◌∷◌, length, get_or, drop, take, cond, true, false, Bool, not, eqb-true, refl, sym, subst, arith}
use Rattle.std.proofs.lemmas.Bool.{and_parts}
use Rattle.std.specs.List.{prefix_len, AllPass}
use Rattle.std.proofs.lemmas.List.{drop_more, at_drop_all, drop-drop, get_or-take, length-take}
use Rattle.std.proofs.lemmas.List.Sums.{prefix_len_passes}
use Rattle.ada_text.specs.Bytes.{is_separator, ends_line, stays_on_line}
use Rattle.ada_text.specs.Gap.{begins_comment, gap_len, comment_len}

pub gap_len-drop : (s : List ℕ) (i : ℕ) → i < length s → gap_len (drop i s) ≡ cond (begins_comment (drop i s)) (1 + comment_len (drop (i + 1) s)) (cond (is_separator (get_or s i 0)) (1 + gap_len (drop (i + 1) s)) 0)
unfolding gap_len comment_len
gap_len-drop s i l = rw (drop_more s i 0 l) refl

pub gap_len-drop_all : (s : List ℕ) (i : ℕ) → length s ≤ i → gap_len (drop i s) ≡ 0
unfolding gap_len
gap_len-drop_all s i l = at_drop_all gap_len s i l

-- what a step of the reader rests on
pub ruleset steps = (gap_len-drop, gap_len-drop_all)

-- a comment takes the rest of its line, and the gap goes on where that ends
line_behind : (n b : ℕ) (bs : List ℕ) → comment_len bs ≡ n + gap_len (drop n bs) → 1 + comment_len bs ≡ (1 + n) + gap_len (drop (1 + n) (b ∷ bs))
line_behind n b bs e = let on : suc n ≡ 1 + n = omega arith in subst (λ m. 1 + comment_len bs ≡ m + gap_len (drop m (b ∷ bs))) on (omega (arith, e))

comment_len-line : (bs : List ℕ) → comment_len bs ≡ prefix_len stays_on_line bs + gap_len (drop (prefix_len stays_on_line bs) bs)
unfolding gap_len comment_len
comment_len-line [] = refl
comment_len-line (b ∷ bs) = by_byte (ends_line b) refl (line_behind (prefix_len stays_on_line bs) b bs (comment_len-line bs))
  where
    by_byte : (r : Bool) → ends_line b ≡ r → 1 + comment_len bs ≡ (1 + prefix_len stays_on_line bs) + gap_len (drop (1 + prefix_len stays_on_line bs) (b ∷ bs))
        → cond r (1 + gap_len bs) (1 + comment_len bs) ≡ cond (not r) (1 + prefix_len stays_on_line bs) 0 + gap_len (drop (cond (not r) (1 + prefix_len stays_on_line bs) 0) (b ∷ bs))
    by_byte true e later = subst (λ c. 1 + gap_len bs ≡ 0 + gap_len (c ∷ bs)) (sym (eqb-true b 10 e)) (omega arith)
    by_byte false e later = later

gap_len-line : (bs : List ℕ) → begins_comment bs ≡ true → gap_len bs ≡ prefix_len stays_on_line bs + gap_len (drop (prefix_len stays_on_line bs) bs)
unfolding gap_len comment_len
gap_len-line [] e = cc
gap_len-line (b ∷ bs) e =
    let hyphens = and_parts _ _ e in
    subst (λ c. gap_len (c ∷ bs) ≡ prefix_len stays_on_line (c ∷ bs) + gap_len (drop (prefix_len stays_on_line (c ∷ bs)) (c ∷ bs))) (sym (eqb-true b 45 hyphens.0)) (rw hyphens.1 (line_behind (prefix_len stays_on_line bs) 45 bs (comment_len-line bs)))

pub gap_len-comment : (s : List ℕ) (i n : ℕ) → begins_comment (drop i s) ≡ true → n ≡ prefix_len stays_on_line (drop i s) → gap_len (drop i s) ≡ n + gap_len (drop (i + n) s)
gap_len-comment s i n e len = rw len (rw (drop-drop (prefix_len stays_on_line (drop i s)) i s) at (gap_len-line (drop i s) e))

-- none of its bytes ends the line
pub line_stays : (bs : List ℕ) (n : ℕ) → n ≡ prefix_len stays_on_line bs → AllPass stays_on_line (take n bs)
line_stays bs n len = λ k d h.
    let inside : k < n = omega (arith, simp length-take at h) in
    rw (get_or-take n bs k d inside) (prefix_len_passes stays_on_line bs k d (omega arith))
