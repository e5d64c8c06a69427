-- String literals, byte by byte.
use Rattle.std.proofs.Common.{◌≡◌, ℕ, ◌+◌, ◌<◌, ◌≤◌, List, [], ◌∷◌, ◌++◌, length, get_or, drop, true, false, eqb, Option, Some, None, refl, ap, ◌∙◌, arith, add_assoc, zero-add}
use Rattle.std.proofs.lemmas.List.{drop_more, drop_all, append_assoc, append-nil, drop-drop}
use Rattle.ada_text.specs.Bytes.{is_graphic, begins_with}
use Rattle.ada_text.specs.Literal.{literal, behind}

-- text that was read already, in n bytes, in front of the rest
unfoldable pub with_front : List ℕ → ℕ → Option (List ℕ × ℕ) → Option (List ℕ × ℕ)
with_front front n None = None
with_front front n (Some found) = Some (front ++ found.0, n + found.1)

pub with_front-none : (o : Option (List ℕ × ℕ)) → with_front [] 0 o ≡ o
unfolding with_front
with_front-none None = refl
with_front-none (Some found) = rw zero-add refl

with_front-behind : (front : List ℕ) (n b k : ℕ) (o : Option (List ℕ × ℕ)) → with_front front n (behind b k o) ≡ with_front (front ++ b ∷ []) (n + k) o
unfolding with_front
with_front-behind front n b k None = refl
with_front-behind front n b k (Some found) = rw (append_assoc, add_assoc) refl

pub literal-more : (b : ℕ) (bs : List ℕ) → eqb b 34 ≡ false → is_graphic b ≡ true → literal (b ∷ bs) ≡ behind b 1 (literal bs)
unfolding literal
literal-more b [] e g = rw e refl
literal-more b (c ∷ bs) e g = rw (e, g) refl

literal-other : (b : ℕ) (bs : List ℕ) → eqb b 34 ≡ false → is_graphic b ≡ false → literal (b ∷ bs) ≡ None
unfolding literal
literal-other b [] e g = rw e refl
literal-other b (c ∷ bs) e g = rw (e, g) refl

literal-close : (b : ℕ) (bs : List ℕ) → eqb b 34 ≡ true → begins_with 34 bs ≡ false → literal (b ∷ bs) ≡ Some ([], 1)
unfolding literal
literal-close b [] e g = rw e refl
literal-close b (c ∷ bs) e g = rw (e, g) refl

literal-doubled : (b : ℕ) (bs : List ℕ) → eqb b 34 ≡ true → begins_with 34 bs ≡ true → literal (b ∷ bs) ≡ behind 34 2 (literal (drop 1 bs))
unfolding literal
literal-doubled b [] e g = cc
literal-doubled b (c ∷ bs) e g = rw (e, g) refl

-- what each kind of byte at place i does to the reading
pub reads_graphic : (s front : List ℕ) (i : ℕ) → i < length s → eqb (get_or s i 0) 34 ≡ false → is_graphic (get_or s i 0) ≡ true → with_front front i (literal (drop i s)) ≡ with_front (front ++ get_or s i 0 ∷ []) (i + 1) (literal (drop (i + 1) s))
reads_graphic s front i l e g = rw (drop_more s i 0 l, literal-more _ _ e g) (with_front-behind front i (get_or s i 0) 1 (literal (drop (i + 1) s)))

pub reads_other : (s front : List ℕ) (i : ℕ) → i < length s → eqb (get_or s i 0) 34 ≡ false → is_graphic (get_or s i 0) ≡ false → with_front front i (literal (drop i s)) ≡ None
unfolding with_front
reads_other s front i l e g = rw (drop_more s i 0 l, literal-other _ _ e g) refl

pub reads_close : (s front : List ℕ) (i : ℕ) → i < length s → eqb (get_or s i 0) 34 ≡ true → begins_with 34 (drop (i + 1) s) ≡ false → with_front front i (literal (drop i s)) ≡ Some (front, i + 1)
unfolding with_front
reads_close s front i l e g = rw (drop_more s i 0 l, literal-close _ _ e g, append-nil) refl

pub reads_doubled : (s front : List ℕ) (i : ℕ) → i < length s → eqb (get_or s i 0) 34 ≡ true → begins_with 34 (drop (i + 1) s) ≡ true → with_front front i (literal (drop i s)) ≡ with_front (front ++ 34 ∷ []) (i + 1 + 1) (literal (drop (i + 1 + 1) s))
reads_doubled s front i l e g =
    let rest = literal (drop (i + 1 + 1) s) in
    rw (drop_more s i 0 l, literal-doubled _ _ e g, drop-drop 1 (i + 1) s)
    (with_front-behind front i 34 2 rest ∙ ap (λ n. with_front (front ++ 34 ∷ []) n rest) (omega arith))

pub reads_all : (s front : List ℕ) (i : ℕ) → length s ≤ i → with_front front i (literal (drop i s)) ≡ None
unfolding with_front literal
reads_all s front i l = rw (drop_all i s l) refl

pub ruleset steps = (reads_graphic, reads_other, reads_close, reads_doubled, reads_all, with_front-none)
