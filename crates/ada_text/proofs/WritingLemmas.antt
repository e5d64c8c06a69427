-- A token's bytes with a blank behind them are the same token.
use Rattle.std.proofs.Common.{◌≡◌, ℕ, suc, zero, ◌+◌, ◌-◌, ◌<◌, ◌≤◌, List, [], ◌∷◌, ◌++◌, length, get_or, drop, take, map, cond, true, false, Bool, ◌&&◌, ◌||◌, eqb, eqb-true, ltb, leb, Option, Some, None, refl, ap, sym, ◌∙◌, subst, arith}
use Rattle.std.proofs.Math.Numerals.{one-add}
use Rattle.std.specs.List.{prefix_len, take_while}
use Rattle.std.proofs.lemmas.List.{append_assoc, take_at, drop_at, length-take-le, length-append, drop-drop, length-drop}
use Rattle.std.proofs.lemmas.List.Folds.{length-prefix_len}
use Rattle.ada_text.specs.Bytes.{blank, hyphen, quote, is_letter, is_digit, is_word_byte, is_graphic, is_separator, ends_line}
use Rattle.ada_text.specs.Place.{line_after, column_after}
use Rattle.ada_text.specs.Gap.{begins_comment, gap_len, comment_len, next_start}
use Rattle.ada_text.specs.Identifier.{underscores_stand_alone}
use Rattle.ada_text.specs.Number.{number_len, value, begins_with_digit}
use Rattle.ada_text.specs.Literal.{literal, behind}
use Rattle.ada_text.specs.Delimiter.{delimiter_in_front, spelling}
use Rattle.ada_text.specs.Token.{Kind, number, Lexeme}
use Rattle.ada_text.specs.Element.{Element, element, token, flaw, word_or_identifier, word_element, number_element, string_element, delimiter_element, begins_like_word}
use Rattle.ada_text.specs.declared.element.Flaw.TheVariants.{NumberRange, IdentifierForm}
use Rattle.ada_text.specs.declared.limits.TheConstants.{GREATEST_NUMBER, LONGEST_SOURCE, LONGEST_IDENTIFIER}
use Rattle.ada_text.specs.declared.delimiter.Delimiter.{Delimiter}
use Rattle.ada_text.specs.declared.delimiter.Delimiter.TheVariants.{Assign, NotEqual, LessEqual, GreaterEqual, Arrow, DoubleDot, LeftParenthesis, RightParenthesis, Comma, Semicolon, Colon, Dot, Tick, Plus, Minus, Star, Slash, Equal, Less, Greater, Bar}
use Rattle.std.specs.Char.{to_ascii_uppercase}
use Rattle.ada_text.specs.Word.{reserved_word}
use Rattle.ada_text.proofs.NumberLemmas.{number_len-le}
use Rattle.ada_text.proofs.LiteralLemmas.{literal-more}
use Rattle.ada_text.proofs.LayoutLemmas.{gap_len-comment, gap_len-separator, gap_len-other, comment_len-end, comment_len-more, both, neither}
use Rattle.ada_text.proofs.ReadingLemmas.{takes_at, token_inside}
use Rattle.ada_text.proofs.ElementLemmas.{element_first, Takes, element_takes, token_len, delimiter_bytes}
use Rattle.ada_text.specs.Reading.{Reads, IsTokenAt, complete, Spells}
use Rattle.ada_text.specs.Writing.{written, bytes_of, kind_in, IsReadAgain}

-- the longest front that passes a test that a blank does not
prefix_again : (p : ℕ → Bool) (s rest : List ℕ) → p blank ≡ false → prefix_len p (take (prefix_len p s) s ++ blank ∷ rest) ≡ prefix_len p s
prefix_again p [] rest e = rw e refl
prefix_again p (b ∷ bs) rest e = by_test (p b) refl (prefix_again p bs rest e)
  where
    by_test : (r : Bool) → p b ≡ r → prefix_len p (take (prefix_len p bs) bs ++ blank ∷ rest) ≡ prefix_len p bs
        → prefix_len p (take (cond r (1 + prefix_len p bs) 0) (b ∷ bs) ++ blank ∷ rest) ≡ cond r (1 + prefix_len p bs) 0
    by_test true f more = rw one-add (rw (f, more) (one-add (prefix_len p bs)))
    by_test false f more = rw e refl

-- words
run_again : (s rest : List ℕ) → take_while is_word_byte (take (prefix_len is_word_byte s) s ++ blank ∷ rest) ≡ take_while is_word_byte s
run_again s rest =
    let n = prefix_len is_word_byte s in
    ap (λ m. take m (take n s ++ blank ∷ rest)) (prefix_again is_word_byte s rest refl) ∙ take_at (take n s) (blank ∷ rest) n (length-prefix_len is_word_byte s)

unfoldable pub word_of : List ℕ → Element
word_of bytes =
    let letters = map to_ascii_uppercase bytes in
    cond (underscores_stand_alone bytes && leb (length bytes) LONGEST_IDENTIFIER) (token (word_or_identifier letters (reserved_word letters)) (length bytes)) (flaw IdentifierForm)

pub word_is : (s : List ℕ) → word_element s ≡ word_of (take_while is_word_byte s)
unfolding word_element word_of
word_is s = refl

word_len_is : (bytes : List ℕ) (k : Kind) (n : ℕ) → word_of bytes ≡ token k n → length bytes ≡ n
unfolding word_of
word_len_is bytes k n e = by_test (underscores_stand_alone bytes && leb (length bytes) LONGEST_IDENTIFIER) e
  where
    by_test : (r : Bool) → cond r (token (word_or_identifier (map to_ascii_uppercase bytes) (reserved_word (map to_ascii_uppercase bytes))) (length bytes)) (flaw IdentifierForm) ≡ token k n → length bytes ≡ n
    by_test true e = cc
    by_test false e = cc

word_again : (s rest : List ℕ) (k : Kind) (n : ℕ) → word_element s ≡ token k n → word_element (take n s ++ blank ∷ rest) ≡ token k n
word_again s rest k n e =
    let found : word_of (take_while is_word_byte s) ≡ token k n = sym (word_is s) ∙ e in
    let len : prefix_len is_word_byte s ≡ n = sym (length-prefix_len is_word_byte s) ∙ word_len_is (take_while is_word_byte s) k n found in
    let again : word_element (take (prefix_len is_word_byte s) s ++ blank ∷ rest) ≡ token k n = word_is _ ∙ ap word_of (run_again s rest) ∙ found in
    subst (λ m. word_element (take m s ++ blank ∷ rest) ≡ token k n) len again

-- numbers
digit_again : (bs rest : List ℕ) → begins_with_digit bs ≡ true → begins_with_digit (take (number_len bs) bs ++ blank ∷ rest) ≡ true
unfolding number_len
digit_again [] rest e = cc
digit_again (c ∷ cs) rest e = rw e (rw one-add e)

either_way : (a b x y : Bool) → (a || (b && x)) ≡ true → (x ≡ true → y ≡ true) → (a || (b && y)) ≡ true
either_way true b x y e f = refl
either_way false true x y e f = f e
either_way false false x y e f = cc

number_again : (s rest : List ℕ) → number_len (take (number_len s) s ++ blank ∷ rest) ≡ number_len s
unfolding number_len
number_again [] rest = refl
number_again (b ∷ bs) rest = by_test (is_digit b || (eqb b 95 && begins_with_digit bs)) refl (number_again bs rest)
  where
    by_test : (r : Bool) → (is_digit b || (eqb b 95 && begins_with_digit bs)) ≡ r → number_len (take (number_len bs) bs ++ blank ∷ rest) ≡ number_len bs
        → number_len (take (cond r (1 + number_len bs) 0) (b ∷ bs) ++ blank ∷ rest) ≡ cond r (1 + number_len bs) 0
    by_test true e more =
        let still = either_way (is_digit b) (eqb b 95) (begins_with_digit bs) (begins_with_digit (take (number_len bs) bs ++ blank ∷ rest)) e (digit_again bs rest) in
        rw one-add (rw (still, more) (one-add (number_len bs)))
    by_test false e more = refl

unfoldable pub number_of : List ℕ → Bool → ℕ → Element
number_of digits followed len = cond (ltb GREATEST_NUMBER (value digits)) (flaw NumberRange) (cond followed (flaw IdentifierForm) (token (number (value digits)) len))

pub number_is : (s : List ℕ) → number_element s ≡ number_of (take (number_len s) s) (begins_like_word (drop (number_len s) s)) (number_len s)
unfolding number_element number_of
number_is s = refl

number_of-token : (digits : List ℕ) (followed : Bool) (len : ℕ) (k : Kind) (n : ℕ) → number_of digits followed len ≡ token k n → (number_of digits false len ≡ token k n) × (len ≡ n)
unfolding number_of
number_of-token digits followed len k n e = by_test (ltb GREATEST_NUMBER (value digits)) followed e
  where
    by_test : (r f : Bool) → cond r (flaw NumberRange) (cond f (flaw IdentifierForm) (token (number (value digits)) len)) ≡ token k n
        → (cond r (flaw NumberRange) (token (number (value digits)) len) ≡ token k n) × (len ≡ n)
    by_test true f e = cc
    by_test false true e = cc
    by_test false false e = (e, cc)

number_len-length : (s : List ℕ) → length (take (number_len s) s) ≡ number_len s
number_len-length s = length-take-le (number_len s) s (number_len-le s)

number_element_again : (s rest : List ℕ) (k : Kind) (n : ℕ) → number_element s ≡ token k n → number_element (take n s ++ blank ∷ rest) ≡ token k n
number_element_again s rest k n e =
    let m = number_len s in
    let text = take m s ++ blank ∷ rest in
    let found = number_of-token (take m s) (begins_like_word (drop m s)) m k n (sym (number_is s) ∙ e) in
    let digits : take m text ≡ take m s = take_at (take m s) (blank ∷ rest) m (number_len-length s) in
    let behind_it : drop m text ≡ blank ∷ rest = drop_at (take m s) (blank ∷ rest) m (number_len-length s) in
    let again : number_element text ≡ token k n = number_is text ∙ rw (number_again s rest, digits, behind_it) found.0 in
    subst (λ j. number_element (take j s ++ blank ∷ rest) ≡ token k n) found.1 again

-- strings
pub inside : (b k : ℕ) (o : Option (List ℕ × ℕ)) (f : List ℕ × ℕ) → behind b k o ≡ Some f → (g : List ℕ × ℕ) × (o ≡ Some g) × (f ≡ (b ∷ g.0, k + g.1))
inside b k None f e = cc
inside b k (Some g) f e = (g, refl, let same : f ≡ (b ∷ g.0, k + g.1) = cc in same)

abbrev Again : List ℕ → List ℕ → List ℕ × ℕ → Type 0
Again s rest f = literal (take f.1 s ++ blank ∷ rest) ≡ Some f

closed_again : (b : ℕ) (bs rest : List ℕ) (f : List ℕ × ℕ) → eqb b quote ≡ true → Some ([], 1) ≡ Some f → Again (b ∷ bs) rest f
unfolding literal
closed_again b bs rest f q e = let same : ([], 1) ≡ f = cc in subst (Again (b ∷ bs) rest) same (rw q refl)

doubled_again : (b c : ℕ) (bs rest : List ℕ) (g : List ℕ × ℕ) → eqb b quote ≡ true → eqb c quote ≡ true → Again bs rest g → Again (b ∷ c ∷ bs) rest (quote ∷ g.0, 2 + g.1)
unfolding literal
doubled_again b c bs rest g x y again =
    let two : 2 + g.1 ≡ suc (suc g.1) = omega arith in
    subst (λ n. literal (take n (b ∷ c ∷ bs) ++ blank ∷ rest) ≡ Some (quote ∷ g.0, 2 + g.1)) (sym two) (rw (x, y, again) refl)

graphic_again : (b : ℕ) (bs rest : List ℕ) (g : List ℕ × ℕ) → eqb b quote ≡ false → is_graphic b ≡ true → Again bs rest g → Again (b ∷ bs) rest (b ∷ g.0, 1 + g.1)
graphic_again b bs rest g x z again =
    subst (λ n. literal (take n (b ∷ bs) ++ blank ∷ rest) ≡ Some (b ∷ g.0, 1 + g.1)) (sym (one-add g.1))
    (literal-more b (take g.1 bs ++ blank ∷ rest) x z ∙ ap (behind b 1) again)

literal_again : (s rest : List ℕ) (f : List ℕ × ℕ) → literal s ≡ Some f → Again s rest f
unfolding literal
literal_again [] rest f e = cc
literal_again (b ∷ []) rest f e = by_quote (eqb b quote) refl e
  where
    by_quote : (r : Bool) → eqb b quote ≡ r → cond r (Some ([], 1)) None ≡ Some f → Again (b ∷ []) rest f
    by_quote true q e = closed_again b [] rest f q e
    by_quote false q e = cc
literal_again (b ∷ c ∷ bs) rest f e = by_quote (eqb b quote) (eqb c quote) (is_graphic b) refl refl refl (literal_again bs rest) (literal_again (c ∷ bs) rest) e
  where
    by_quote : (p q r : Bool) → eqb b quote ≡ p → eqb c quote ≡ q → is_graphic b ≡ r
        → ((g : List ℕ × ℕ) → literal bs ≡ Some g → Again bs rest g) → ((g : List ℕ × ℕ) → literal (c ∷ bs) ≡ Some g → Again (c ∷ bs) rest g)
        → cond p (cond q (behind quote 2 (literal bs)) (Some ([], 1))) (cond r (behind b 1 (literal (c ∷ bs))) None) ≡ Some f → Again (b ∷ c ∷ bs) rest f
    by_quote true true r x y z later more e =
        let found = inside quote 2 (literal bs) f e in
        subst (Again (b ∷ c ∷ bs) rest) (sym found.2) (doubled_again b c bs rest found.0 x y (later found.0 found.1))
    by_quote true false r x y z later more e = closed_again b (c ∷ bs) rest f x e
    by_quote false q true x y z later more e =
        let found = inside b 1 (literal (c ∷ bs)) f e in
        subst (Again (b ∷ c ∷ bs) rest) (sym found.2) (graphic_again b (c ∷ bs) rest found.0 x z (more found.0 found.1))
    by_quote false q false x y z later more e = cc

string_again : (s rest : List ℕ) (k : Kind) (n : ℕ) → 0 < length s → string_element (literal (drop 1 s)) ≡ token k n → string_element (literal (drop 1 (take n s ++ blank ∷ rest))) ≡ token k n
string_again [] rest k n l e = absurd (omega arith)
string_again (b ∷ bs) rest k n l e = by_literal (literal bs) refl e
  where
    by_literal : (o : Option (List ℕ × ℕ)) → literal bs ≡ o → string_element o ≡ token k n → string_element (literal (drop 1 (take n (b ∷ bs) ++ blank ∷ rest))) ≡ token k n
    by_literal None h e = cc
    by_literal (Some f) h e =
        let len : suc f.1 ≡ n = sym (one-add f.1) ∙ token_len e in
        subst (λ m. string_element (literal (drop 1 (take m (b ∷ bs) ++ blank ∷ rest))) ≡ token k n) len (rw (literal_again bs rest f h) e)

-- delimiters
spelling_again : (d : Delimiter) (rest : List ℕ) → delimiter_in_front (spelling d ++ blank ∷ rest) ≡ Some d
unfolding delimiter_in_front
spelling_again Assign rest = refl
spelling_again NotEqual rest = refl
spelling_again LessEqual rest = refl
spelling_again GreaterEqual rest = refl
spelling_again Arrow rest = refl
spelling_again DoubleDot rest = refl
spelling_again LeftParenthesis rest = refl
spelling_again RightParenthesis rest = refl
spelling_again Comma rest = refl
spelling_again Semicolon rest = refl
spelling_again Colon rest = refl
spelling_again Dot rest = refl
spelling_again Tick rest = refl
spelling_again Plus rest = refl
spelling_again Minus rest = refl
spelling_again Star rest = refl
spelling_again Slash rest = refl
spelling_again Equal rest = refl
spelling_again Less rest = refl
spelling_again Greater rest = refl
spelling_again Bar rest = refl

delimiter_again : (s rest : List ℕ) (k : Kind) (n : ℕ) → delimiter_element (delimiter_in_front s) ≡ token k n → delimiter_element (delimiter_in_front (take n s ++ blank ∷ rest)) ≡ token k n
delimiter_again s rest k n e = by_found (delimiter_in_front s) refl e
  where
    by_found : (o : Option Delimiter) → delimiter_in_front s ≡ o → delimiter_element o ≡ token k n → delimiter_element (delimiter_in_front (take n s ++ blank ∷ rest)) ≡ token k n
    by_found None h e = cc
    by_found (Some d) h e =
        subst (λ m. delimiter_element (delimiter_in_front (take m s ++ blank ∷ rest)) ≡ token k n) (token_len e)
        (rw (delimiter_bytes s d h, spelling_again d rest) e)

-- any token
head_again : (s rest : List ℕ) (n : ℕ) → 0 < n → n ≤ length s → (get_or (take n s ++ blank ∷ rest) 0 0 ≡ get_or s 0 0) × (0 < length (take n s ++ blank ∷ rest))
head_again [] rest n some within = absurd (omega arith)
head_again (b ∷ bs) rest zero some within = absurd (omega arith)
head_again (b ∷ bs) rest (suc n) some within = (refl, omega arith)

element_again : (s rest : List ℕ) (k : Kind) (n : ℕ) → 0 < length s → element s ≡ token k n → element (take n s ++ blank ∷ rest) ≡ token k n
element_again s rest k n l e = by_first (is_letter (get_or s 0 0)) (is_digit (get_or s 0 0)) (eqb (get_or s 0 0) quote) (sym (element_first s l) ∙ e)
    (element_first (take n s ++ blank ∷ rest) head.1 ∙ rw head.0 refl)
  where
    takes : Takes s n
    takes = element_takes s k n l e

    head : (get_or (take n s ++ blank ∷ rest) 0 0 ≡ get_or s 0 0) × (0 < length (take n s ++ blank ∷ rest))
    head = head_again s rest n takes.some takes.within

    by_cases : List ℕ → Bool → Bool → Bool → Element
    by_cases text p q r = cond p (word_element text) (cond q (number_element text) (cond r (string_element (literal (drop 1 text))) (delimiter_element (delimiter_in_front text))))

    by_first : (p q r : Bool) → by_cases s p q r ≡ token k n → element (take n s ++ blank ∷ rest) ≡ by_cases (take n s ++ blank ∷ rest) p q r → element (take n s ++ blank ∷ rest) ≡ token k n
    by_first true q r w text = text ∙ word_again s rest k n w
    by_first false true r w text = text ∙ number_element_again s rest k n w
    by_first false false true w text = text ∙ string_again s rest k n l w
    by_first false false false w text = text ∙ delimiter_again s rest k n w

-- behind a gap there is none
abbrev IsDone : List ℕ → Type 0
IsDone s = gap_len (drop (gap_len s) s) ≡ 0

abbrev CommentIsDone : List ℕ → Type 0
CommentIsDone s = gap_len (drop (comment_len s) s) ≡ 0

separator_done : (b : ℕ) (bs : List ℕ) (r : Bool) → begins_comment (b ∷ bs) ≡ false → is_separator b ≡ r → IsDone bs → IsDone (b ∷ bs)
separator_done b bs true e f more = rw (gap_len-separator b bs e f) more
separator_done b bs false e f more = rw (gap_len-other b bs e f) (gap_len-other b bs e f)

comment_done : (b c : ℕ) (bs : List ℕ) (r : Bool) → begins_comment (b ∷ c ∷ bs) ≡ r → IsDone (c ∷ bs) → CommentIsDone bs → IsDone (b ∷ c ∷ bs)
comment_done b c bs true e more comment =
    let test = both (eqb b hyphen) (eqb c hyphen) e in
    rw (eqb-true b hyphen test.0, eqb-true c hyphen test.1, gap_len-comment bs) comment
comment_done b c bs false e more comment = separator_done b (c ∷ bs) (is_separator b) e refl more

line_done : (b : ℕ) (bs : List ℕ) (r : Bool) → ends_line b ≡ r → IsDone bs → CommentIsDone bs → CommentIsDone (b ∷ bs)
line_done b bs true e more comment = rw (comment_len-end b bs e) more
line_done b bs false e more comment = rw (comment_len-more b bs e) comment

mutual
  unfolding gap_len comment_len

  gap_done : (s : List ℕ) → IsDone s
  gap_done [] = refl
  gap_done (b ∷ []) = separator_done b [] (is_separator b) (neither (eqb b hyphen)) refl refl
  gap_done (b ∷ c ∷ bs) = comment_done b c bs (begins_comment (b ∷ c ∷ bs)) refl (gap_done (c ∷ bs)) (rest_done bs)

  rest_done : (s : List ℕ) → CommentIsDone s
  rest_done [] = refl
  rest_done (b ∷ bs) = line_done b bs (ends_line b) refl (gap_done bs) (rest_done bs)

-- and where there is none, there is none before the token's bytes alone
not_gap : (b : ℕ) (bs : List ℕ) → gap_len (b ∷ bs) ≡ 0 → (begins_comment (b ∷ bs) ≡ false) × (is_separator b ≡ false)
unfolding gap_len comment_len
not_gap b bs e = by_tests (begins_comment (b ∷ bs)) (is_separator b) e
  where
    by_tests : (p q : Bool) → cond p (1 + comment_len bs) (cond q (1 + gap_len bs) 0) ≡ 0 → (p ≡ false) × (q ≡ false)
    by_tests true q e = absurd (omega arith)
    by_tests false true e = absurd (omega arith)
    by_tests false false e = (refl, refl)

gap_again : (s rest : List ℕ) (n : ℕ) → gap_len s ≡ 0 → 0 < n → n ≤ length s → gap_len (take n s ++ blank ∷ rest) ≡ 0
gap_again [] rest n e some within = absurd (omega arith)
gap_again (b ∷ bs) rest zero e some within = absurd (omega arith)
gap_again (b ∷ bs) rest (suc zero) e some within = gap_len-other b (blank ∷ rest) (neither (eqb b hyphen)) (not_gap b bs e).1
gap_again (b ∷ []) rest (suc (suc n)) e some within = gap_len-other b (blank ∷ rest) (neither (eqb b hyphen)) (not_gap b [] e).1
gap_again (b ∷ c ∷ cs) rest (suc (suc n)) e some within = gap_len-other b (c ∷ (take n cs ++ blank ∷ rest)) (not_gap b (c ∷ cs) e).0 (not_gap b (c ∷ cs) e).1

-- the token's bytes are those that it takes
pub bytes_of_is : (source : List ℕ) (i : ℕ) (t : Lexeme) (h : IsTokenAt source i t) → bytes_of source t ≡ take h.len (drop i source)
bytes_of_is source i t h =
    let len : t.to - t.from ≡ h.len = omega (arith, h.to, h.from) in
    rw (len, h.from) refl

-- what is written begins with no gap
written_starts : (source : List ℕ) (i : ℕ) (ts : List Lexeme) → gap_len (drop i source) ≡ 0 → Reads source i ts complete → gap_len (written source ts) ≡ 0
unfolding written gap_len
written_starts source i [] g r = refl
written_starts source i (t ∷ ts) g r =
    let takes = takes_at source i t (token_inside source i t r.0) r.0 in
    let within : r.0.len ≤ length (drop i source) = omega (arith, takes.within, length-drop i source) in
    rw (bytes_of_is source i t r.0) (gap_again (drop i source) (written source ts) r.0.len g takes.some within)

-- the next token begins where no gap is
next_done : (source : List ℕ) (i : ℕ) → gap_len (drop (next_start source i) source) ≡ 0
next_done source i = rw (← drop-drop (gap_len (drop i source)) i source) (gap_done (drop i source))

-- the tokens that are read again behind some bytes
pub record FoundBehind (before text : List ℕ) (ts : List Lexeme) : Type 0 where
  pub us : List Lexeme
  pub reads : Reads (before ++ text) (length before) us complete
  pub kinds : map kind_in us ≡ map kind_in ts

-- one token more in front
token_in_front : (before w rest : List ℕ) (k : Kind) (n : ℕ) (t : Lexeme) (ts : List Lexeme) → n ≡ length w → t.kind ≡ k → element (w ++ blank ∷ rest) ≡ token k n → gap_len rest ≡ 0
    → FoundBehind (before ++ (w ++ blank ∷ [])) rest ts → FoundBehind before (w ++ blank ∷ rest) (t ∷ ts)
token_in_front before w rest k n t ts len kind spelled starts found =
    let text = w ++ blank ∷ rest in
    let whole = before ++ text in
    let i = length before in
    let u : Lexeme = record { kind = k; line = line_after (take i whole); column = column_after (take i whole); from = i; to = i + n } in
    let u_at : IsTokenAt whole i u = record { len = n; spelled = rw (drop_at before text i refl) spelled; from = refl; to = refl; line = refl; column = refl } in
    let split : whole ≡ (before ++ w) ++ blank ∷ rest = sym (append_assoc before w (blank ∷ rest)) in
    let left : drop (i + n) whole ≡ blank ∷ rest = ap (drop (i + n)) split ∙ drop_at (before ++ w) (blank ∷ rest) (i + n) (length-append before w ∙ ap (λ m. i + m) (sym len)) in
    let gap : gap_len (drop (i + n) whole) ≡ 1 = ap gap_len left ∙ gap_len-separator blank rest refl refl ∙ ap suc starts in
    let next : length (before ++ (w ++ blank ∷ [])) ≡ next_start whole u.to =
    omega (arith, gap, len, length-append before (w ++ blank ∷ []), length-append w (blank ∷ [])) in
    let same : (before ++ (w ++ blank ∷ [])) ++ rest ≡ whole = append_assoc before (w ++ blank ∷ []) rest ∙ ap (λ x. before ++ x) (append_assoc w (blank ∷ []) rest) in
    let reads : Reads whole (length (before ++ (w ++ blank ∷ []))) found.us complete = subst (λ x. Reads x (length (before ++ (w ++ blank ∷ []))) found.us complete) same found.reads in
    record {
      us = u ∷ found.us;
      reads = (u_at, subst (λ j. Reads whole j found.us complete) next reads);
      kinds = let kinds : k ∷ map kind_in found.us ≡ t.kind ∷ map kind_in ts = cc (found.kinds) in kinds;
    }

again_from : (source : List ℕ) (i : ℕ) (ts : List Lexeme) → gap_len (drop i source) ≡ 0 → Reads source i ts complete → (before : List ℕ) → FoundBehind before (written source ts) ts
unfolding written
again_from source i [] g r before = record { us = []; reads = drop_at before [] (length before) refl; kinds = refl }
again_from source i (t ∷ ts) g r before =
    let takes = takes_at source i t (token_inside source i t r.0) r.0 in
    let w = take r.0.len (drop i source) in
    let rest = written source ts in
    let some : 0 < length (drop i source) = omega (arith, takes.within, takes.some, length-drop i source) in
    let len : r.0.len ≡ length w = sym (length-take-le r.0.len (drop i source) (omega (arith, takes.within, length-drop i source))) in
    let next = next_start source t.to in
    rw (bytes_of_is source i t r.0) (token_in_front before w rest t.kind r.0.len t ts len refl (element_again (drop i source) rest t.kind r.0.len some r.0.spelled)
    (written_starts source next ts (next_done source t.to) r.1) (again_from source next ts (next_done source t.to) r.1 (before ++ (w ++ blank ∷ []))))

pub IsReadAgain-Spells : (source : List ℕ) (ts : List Lexeme) → Spells source ts → length (written source ts) ≤ LONGEST_SOURCE → IsReadAgain source ts
IsReadAgain-Spells source ts h l =
    let start = next_start source 0 in
    let found = again_from source start ts (next_done source 0) h.reads [] in
    let from_0 : next_start (written source ts) 0 ≡ 0 = omega (arith, written_starts source start ts (next_done source 0) h.reads) in
    record { us = found.us; spelled = record { limit = l; reads = rw from_0 found.reads }; kinds = found.kinds }
