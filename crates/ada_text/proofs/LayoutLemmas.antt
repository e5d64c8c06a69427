-- What a reading passes over is separators and comments.
use Rattle.std.proofs.Common.{◌≡◌, ℕ, suc, ◌-◌, ◌≤◌, List, [], ◌∷◌, ◌++◌, length, drop, take, true, false, Bool, ◌&&◌, not, eqb, eqb-true, refl, ap, sym, ◌∙◌, subst, arith}
use Rattle.std.proofs.Math.Numerals.{one-add}
use Rattle.std.specs.List.{AllPass}
use Rattle.std.proofs.lemmas.List.{append-nil, append_assoc, drop-drop, take-append-drop}
use Rattle.std.proofs.lemmas.List.Elements.{All-push}
use Rattle.ada_text.proofs.ReadingLemmas.{token_inside, token_takes}
use Rattle.ada_text.specs.Bytes.{hyphen, line_feed, is_separator, ends_line, stays_on_line}
use Rattle.ada_text.specs.Gap.{begins_comment, gap_len, comment_len, next_start}
use Rattle.ada_text.specs.Layout.{IsGap, empty, separated, commented, ended, Lie}
use Rattle.ada_text.specs.Token.{Lexeme}
use Rattle.ada_text.specs.Reading.{Reads, complete, Spells}

-- one more byte of a line
stays_push : (line : List ℕ) (b : ℕ) → AllPass stays_on_line line → ends_line b ≡ false → AllPass stays_on_line (line ++ b ∷ [])
stays_push line b h e = All-push (λ x. stays_on_line x ≡ true) line b h (ap not e)

-- how long a gap is, by its first byte
pub gap_len-comment : (bs : List ℕ) → gap_len (hyphen ∷ hyphen ∷ bs) ≡ suc (suc (comment_len bs))
unfolding gap_len comment_len
gap_len-comment bs = omega arith

pub gap_len-separator : (b : ℕ) (bs : List ℕ) → begins_comment (b ∷ bs) ≡ false → is_separator b ≡ true → gap_len (b ∷ bs) ≡ suc (gap_len bs)
unfolding gap_len comment_len
gap_len-separator b bs e f = rw (e, f) (one-add (gap_len bs))

pub gap_len-other : (b : ℕ) (bs : List ℕ) → begins_comment (b ∷ bs) ≡ false → is_separator b ≡ false → gap_len (b ∷ bs) ≡ 0
unfolding gap_len comment_len
gap_len-other b bs e f = rw (e, f) refl

pub comment_len-end : (b : ℕ) (bs : List ℕ) → ends_line b ≡ true → comment_len (b ∷ bs) ≡ suc (gap_len bs)
unfolding gap_len comment_len
comment_len-end b bs e = rw e (one-add (gap_len bs))

pub comment_len-more : (b : ℕ) (bs : List ℕ) → ends_line b ≡ false → comment_len (b ∷ bs) ≡ suc (comment_len bs)
unfolding gap_len comment_len
comment_len-more b bs e = rw e (one-add (comment_len bs))

-- the gap in front of a text, and the rest of a comment behind a part of its line
abbrev FrontIsGap : List ℕ → Type 0
FrontIsGap s = IsGap (drop (gap_len s) s) (take (gap_len s) s)

abbrev CommentIsGap : List ℕ → List ℕ → Type 0
CommentIsGap line s = IsGap (drop (comment_len s) s) (hyphen ∷ hyphen ∷ (line ++ take (comment_len s) s))

separator_case : (b : ℕ) (bs : List ℕ) (r : Bool) → begins_comment (b ∷ bs) ≡ false → is_separator b ≡ r → FrontIsGap bs → FrontIsGap (b ∷ bs)
separator_case b bs true e f more = rw (gap_len-separator b bs e f) (separated b _ f more)
separator_case b bs false e f more = rw (gap_len-other b bs e f) empty

pub both : (p q : Bool) → (p && q) ≡ true → (p ≡ true) × (q ≡ true)
both true true e = (refl, refl)
both true false e = cc
both false q e = cc

pub neither : (r : Bool) → (r && false) ≡ false
neither true = refl
neither false = refl

comment_case : (b c : ℕ) (bs : List ℕ) (r : Bool) → begins_comment (b ∷ c ∷ bs) ≡ r → FrontIsGap (c ∷ bs) → CommentIsGap [] bs → FrontIsGap (b ∷ c ∷ bs)
comment_case b c bs true e more comment =
    let test = both (eqb b hyphen) (eqb c hyphen) e in
    rw (eqb-true b hyphen test.0, eqb-true c hyphen test.1, gap_len-comment bs) comment
comment_case b c bs false e more comment = separator_case b (c ∷ bs) (is_separator b) e refl more

line_case : (b : ℕ) (bs line : List ℕ) (r : Bool) → ends_line b ≡ r → AllPass stays_on_line line → FrontIsGap bs → (ends_line b ≡ false → CommentIsGap (line ++ b ∷ []) bs) → CommentIsGap line (b ∷ bs)
line_case b bs line true e h more rest = rw (comment_len-end b bs e, eqb-true b line_feed e) (commented line _ h more)
line_case b bs line false e h more rest = rw (comment_len-more b bs e) (rw append_assoc at (rest e))

mutual
  unfolding gap_len comment_len

  gap_shape : (s : List ℕ) → FrontIsGap s
  gap_shape [] = empty
  gap_shape (b ∷ []) = separator_case b [] (is_separator b) (neither (eqb b hyphen)) refl empty
  gap_shape (b ∷ c ∷ bs) = comment_case b c bs (begins_comment (b ∷ c ∷ bs)) refl (gap_shape (c ∷ bs)) (comment_shape bs [] (λ k d l. absurd (omega arith)))

  comment_shape : (s line : List ℕ) → AllPass stays_on_line line → CommentIsGap line s
  comment_shape [] line h = rw append-nil (ended line h refl)
  comment_shape (b ∷ bs) line h = line_case b bs line (ends_line b) refl h (gap_shape bs) (λ e. comment_shape bs (line ++ b ∷ []) (stays_push line b h e))

-- from a place on, with the gap there
lie_from : (source : List ℕ) (i : ℕ) (ts : List Lexeme) → i ≤ length source → Reads source (next_start source i) ts complete → Lie source i ts
lie_from source i [] l r =
    let rest = drop i source in
    let none : drop (gap_len rest) rest ≡ [] = rw drop-drop r in
    let all : take (gap_len rest) rest ≡ rest = sym (append-nil (take (gap_len rest) rest)) ∙ ap (λ x. take (gap_len rest) rest ++ x) (sym none) ∙ take-append-drop (gap_len rest) rest in
    subst (λ x. IsGap x rest) none (subst (IsGap (drop (gap_len rest) rest)) all (gap_shape rest))
lie_from source i (t ∷ ts) l r =
    let start = next_start source i in
    let inside = token_inside source start t r.0 in
    let takes = token_takes source start t inside r.0 in
    let here : t.from ≡ start = r.0.from in
    let rest = drop i source in
    let gap : t.from - i ≡ gap_len rest = omega arith in
    let behind : drop t.from source ≡ drop (gap_len rest) rest = rw (here, drop-drop) refl in
    (omega arith, omega (arith, takes.some), omega (arith, takes.within, r.0.from, takes.some), rw (behind, gap) (gap_shape rest), lie_from source t.to ts (omega (arith, takes.within, takes.some)) r.1)

pub Lie-Spells : (source : List ℕ) (ts : List Lexeme) → Spells source ts → Lie source 0 ts
Lie-Spells source ts h = lie_from source 0 ts (omega arith) h.reads
