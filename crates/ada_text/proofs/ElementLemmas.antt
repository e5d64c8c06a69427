-- What a token takes of the text: some bytes of it, none of which ends the line.
use Rattle.std.proofs.Common.{◌≡◌, ℕ, ◌+◌, ◌<◌, ◌≤◌, List, [], ◌∷◌, ◌++◌, length, get_or, drop, take, cond, true, false, Bool, ◌&&◌, ◌||◌, eqb, ltb, Option, Some, None, find, refl, ap, sym, ◌∙◌, subst, arith, lit<}
use Rattle.std.proofs.Math.Numerals.{one-add}
use Rattle.std.specs.List.{prefix_len, AllPass, AllByRecursion}
use Rattle.std.proofs.lemmas.List.{length-take, length-append, get_or-take, take_at}
use Rattle.std.proofs.lemmas.List.Elements.{All-from_recursion}
use Rattle.std.proofs.lemmas.List.Folds.{length-prefix_len}
use Rattle.std.proofs.lemmas.List.Sums.{prefix_len_passes, prefix_len-le-length}
use Rattle.std.proofs.lemmas.Bool.Decides.{nat_tests, Decides-eqb}
use Rattle.std.proofs.lemmas.Slice.Eq.{starts_is}
use Rattle.ada_text.specs.declared.delimiter.Delimiter.{Delimiter}
use Rattle.ada_text.specs.declared.delimiter.Delimiter.TheVariants.{Assign, NotEqual, LessEqual, GreaterEqual, Arrow, DoubleDot, LeftParenthesis, RightParenthesis, Comma, Semicolon, Colon, Dot, Tick, Plus, Minus, Star, Slash, Equal, Less, Greater, Bar}
use Rattle.ada_text.specs.Bytes.{is_letter, is_digit, is_word_byte, is_graphic, quote, stays_on_line}
use Rattle.ada_text.specs.Number.{number_len, begins_with_digit, value}
use Rattle.ada_text.specs.Literal.{literal, behind}
use Rattle.ada_text.specs.Delimiter.{delimiter_in_front, delimiters, begins_with_delimiter, spelling}
use Rattle.ada_text.specs.declared.element.Flaw.{Flaw}
use Rattle.ada_text.specs.declared.element.Flaw.TheVariants.{NumberRange, IdentifierForm}
use Rattle.ada_text.specs.declared.limits.TheConstants.{GREATEST_NUMBER}
use Rattle.ada_text.specs.Token.{Kind, number}
use Rattle.ada_text.specs.Element.{Element, token, flaw, element, word_element, number_element, string_element, delimiter_element, begins_like_word}
use Rattle.ada_text.proofs.NumberLemmas.{number_len-le}

-- by the first byte
pub element_first : (s : List ℕ) → 0 < length s → element s ≡ cond (is_letter (get_or s 0 0)) (word_element s) (cond (is_digit (get_or s 0 0)) (number_element s) (cond (eqb (get_or s 0 0) quote) (string_element (literal (drop 1 s))) (delimiter_element (delimiter_in_front s))))
unfolding element
element_first [] l = absurd (omega arith)
element_first (b ∷ bs) l = refl

-- a token takes n bytes of the text
pub record Takes (s : List ℕ) (n : ℕ) : Type 0 where
  pub some : 0 < n
  pub within : n ≤ length s
  pub on_line : AllPass stays_on_line (take n s)

abbrev Stays : ℕ → Type 0
Stays b = stays_on_line b ≡ true

pub letter_is_word : (b : ℕ) → is_letter b ≡ true → is_word_byte b ≡ true
letter_is_word b e = grind (arith, nat_tests)

word_stays : (b : ℕ) → is_word_byte b ≡ true → stays_on_line b ≡ true
word_stays b e = grind (arith, nat_tests)

graphic_stays : (b : ℕ) → is_graphic b ≡ true → stays_on_line b ≡ true
graphic_stays b e = grind (arith, nat_tests)

quote_stays : (b : ℕ) → eqb b quote ≡ true → stays_on_line b ≡ true
quote_stays b e = grind (arith, nat_tests)

number_byte_stays : (b : ℕ) (r : Bool) → (is_digit b || (eqb b 95 && r)) ≡ true → stays_on_line b ≡ true
number_byte_stays b true e = grind (arith, nat_tests)
number_byte_stays b false e = grind (arith, nat_tests)

-- a token's length, whichever way its tests went
pub token_len : {a b : Kind} {m n : ℕ} → token a m ≡ token b n → m ≡ n
token_len e = cc

passed : (r : Bool) (k : Kind) (f : Flaw) (n : ℕ) (x : Element) → cond r x (flaw f) ≡ token k n → x ≡ token k n
passed true k f n x e = e
passed false k f n x e = cc

pub len_behind_tests : (p q : Bool) (f g : Flaw) (a b : Kind) (m n : ℕ) → cond p (flaw f) (cond q (flaw g) (token a m)) ≡ token b n → m ≡ n
len_behind_tests true q f g a b m n e = cc
len_behind_tests false true f g a b m n e = cc
len_behind_tests false false f g a b m n e = cc

-- words
first_counts : (p : ℕ → Bool) (s : List ℕ) → 0 < length s → p (get_or s 0 0) ≡ true → 0 < prefix_len p s
first_counts p [] l e = absurd (omega arith)
first_counts p (b ∷ bs) l e = rw e (omega arith)

run_takes : (s : List ℕ) (n : ℕ) → 0 < length s → is_letter (get_or s 0 0) ≡ true → n ≡ prefix_len is_word_byte s → Takes s n
run_takes s n l e len = record {
  some = omega (arith, first_counts is_word_byte s l (letter_is_word (get_or s 0 0) e));
  within = omega (arith, prefix_len-le-length is_word_byte s);
  on_line = λ i d h.
      let inside : i < n = omega (arith, simp length-take at h) in
      let counted : i < prefix_len is_word_byte s = omega arith in
      rw (get_or-take n s i d inside) (word_stays (get_or s i d) (prefix_len_passes is_word_byte s i d counted));
}

word_takes : (s : List ℕ) (k : Kind) (n : ℕ) → 0 < length s → is_letter (get_or s 0 0) ≡ true → word_element s ≡ token k n → Takes s n
unfolding word_element
word_takes s k n l e w = run_takes s n l e (sym (token_len (passed _ _ _ _ _ w)) ∙ length-prefix_len is_word_byte s)

-- numbers
number_on_line : (s : List ℕ) → AllByRecursion Stays (take (number_len s) s)
unfolding number_len
number_on_line [] = tt
number_on_line (b ∷ bs) = by_test (is_digit b || (eqb b 95 && begins_with_digit bs)) refl (number_on_line bs)
  where
    by_test : (r : Bool) → (is_digit b || (eqb b 95 && begins_with_digit bs)) ≡ r → AllByRecursion Stays (take (number_len bs) bs) → AllByRecursion Stays (take (cond r (1 + number_len bs) 0) (b ∷ bs))
    by_test true e rest = rw one-add (number_byte_stays b (begins_with_digit bs) e, rest)
    by_test false e rest = tt

number_some : (s : List ℕ) → 0 < length s → is_digit (get_or s 0 0) ≡ true → 0 < number_len s
unfolding number_len
number_some [] l e = absurd (omega arith)
number_some (b ∷ bs) l e = rw e (omega arith)

number_takes : (s : List ℕ) (k : Kind) (n : ℕ) → 0 < length s → is_digit (get_or s 0 0) ≡ true → number_element s ≡ token k n → Takes s n
unfolding number_element
number_takes s k n l e w =
    let len : number_len s ≡ n = len_behind_tests (ltb GREATEST_NUMBER (value (take (number_len s) s))) (begins_like_word (drop (number_len s) s)) NumberRange IdentifierForm
    (number (value (take (number_len s) s))) k (number_len s) n w in
    subst (Takes s) len (record {
      some = number_some s l e;
      within = number_len-le s;
      on_line = All-from_recursion Stays (take (number_len s) s) (number_on_line s);
    })

-- strings
some_inside : (b k : ℕ) (o : Option (List ℕ × ℕ)) (f : List ℕ × ℕ) → behind b k o ≡ Some f → (g : List ℕ × ℕ) × (o ≡ Some g) × (f.1 ≡ k + g.1)
some_inside b k None f e = cc
some_inside b k (Some g) f e = (g, refl, let len : k + g.1 ≡ f.1 = ap (λ o. elim o [ None ↦ 0 | Some h ↦ h.1 ]) e in sym len)

abbrev Holds : List ℕ → ℕ → Type 0
Holds s n = (n ≤ length s) × AllByRecursion Stays (take n s)

one_byte : (b : ℕ) (bs : List ℕ) (f : List ℕ × ℕ) → Stays b → f.1 ≡ 1 → Holds (b ∷ bs) f.1
one_byte b bs f stays len = subst (Holds (b ∷ bs)) (sym len) (omega arith, (stays, tt))

closed : (f : List ℕ × ℕ) → Some ([], 1) ≡ Some f → f.1 ≡ 1
closed f e = sym (ap (λ o. elim o [ None ↦ 0 | Some h ↦ h.1 ]) e)

one_more : (b : ℕ) (bs : List ℕ) (n m : ℕ) → Stays b → n ≡ 1 + m → Holds bs m → Holds (b ∷ bs) n
one_more b bs n m stays len rest = subst (Holds (b ∷ bs)) (sym (len ∙ one-add m)) (omega (arith, rest.0), (stays, rest.1))

literal_on_line : (s : List ℕ) (f : List ℕ × ℕ) → literal s ≡ Some f → Holds s f.1
unfolding literal
literal_on_line [] f e = cc
literal_on_line (b ∷ []) f e = by_quote (eqb b quote) refl e
  where
    by_quote : (r : Bool) → eqb b quote ≡ r → cond r (Some ([], 1)) None ≡ Some f → Holds (b ∷ []) f.1
    by_quote true q e = one_byte b [] f (quote_stays b q) (closed f e)
    by_quote false q e = cc
literal_on_line (b ∷ c ∷ bs) f e = by_quote (eqb b quote) (eqb c quote) (is_graphic b) refl refl refl (literal_on_line bs) (literal_on_line (c ∷ bs)) e
  where
    by_quote : (p q r : Bool) → eqb b quote ≡ p → eqb c quote ≡ q → is_graphic b ≡ r
        → ((g : List ℕ × ℕ) → literal bs ≡ Some g → Holds bs g.1) → ((g : List ℕ × ℕ) → literal (c ∷ bs) ≡ Some g → Holds (c ∷ bs) g.1)
        → cond p (cond q (behind quote 2 (literal bs)) (Some ([], 1))) (cond r (behind b 1 (literal (c ∷ bs))) None) ≡ Some f → Holds (b ∷ c ∷ bs) f.1
    by_quote true true r x y z later more e =
        let inside = some_inside quote 2 (literal bs) f e in
        one_more b (c ∷ bs) f.1 (1 + inside.0.1) (quote_stays b x) (inside.2 ∙ omega arith) (one_more c bs (1 + inside.0.1) inside.0.1 (quote_stays c y) refl (later inside.0 inside.1))
    by_quote true false r x y z later more e = one_byte b (c ∷ bs) f (quote_stays b x) (closed f e)
    by_quote false q true x y z later more e =
        let inside = some_inside b 1 (literal (c ∷ bs)) f e in
        one_more b (c ∷ bs) f.1 inside.0.1 (graphic_stays b z) inside.2 (more inside.0 inside.1)
    by_quote false q false x y z later more e = cc

string_takes : (s : List ℕ) (k : Kind) (n : ℕ) → 0 < length s → eqb (get_or s 0 0) quote ≡ true → string_element (literal (drop 1 s)) ≡ token k n → Takes s n
string_takes [] k n l e w = absurd (omega arith)
string_takes (b ∷ bs) k n l e w = by_literal (literal bs) refl w
  where
    by_literal : (o : Option (List ℕ × ℕ)) → literal bs ≡ o → string_element o ≡ token k n → Takes (b ∷ bs) n
    by_literal None h w = cc
    by_literal (Some f) h w =
        let holds = one_more b bs n f.1 (quote_stays b e) (sym (token_len w)) (literal_on_line bs f h) in
        record { some = omega (arith, token_len w); within = holds.0; on_line = All-from_recursion Stays (take n (b ∷ bs)) holds.1 }

-- delimiters
spelling_on_line : (d : Delimiter) → AllByRecursion Stays (spelling d) × (0 < length (spelling d))
spelling_on_line Assign = ((refl, (refl, tt)), lit< tt)
spelling_on_line NotEqual = ((refl, (refl, tt)), lit< tt)
spelling_on_line LessEqual = ((refl, (refl, tt)), lit< tt)
spelling_on_line GreaterEqual = ((refl, (refl, tt)), lit< tt)
spelling_on_line Arrow = ((refl, (refl, tt)), lit< tt)
spelling_on_line DoubleDot = ((refl, (refl, tt)), lit< tt)
spelling_on_line LeftParenthesis = ((refl, tt), lit< tt)
spelling_on_line RightParenthesis = ((refl, tt), lit< tt)
spelling_on_line Comma = ((refl, tt), lit< tt)
spelling_on_line Semicolon = ((refl, tt), lit< tt)
spelling_on_line Colon = ((refl, tt), lit< tt)
spelling_on_line Dot = ((refl, tt), lit< tt)
spelling_on_line Tick = ((refl, tt), lit< tt)
spelling_on_line Plus = ((refl, tt), lit< tt)
spelling_on_line Minus = ((refl, tt), lit< tt)
spelling_on_line Star = ((refl, tt), lit< tt)
spelling_on_line Slash = ((refl, tt), lit< tt)
spelling_on_line Equal = ((refl, tt), lit< tt)
spelling_on_line Less = ((refl, tt), lit< tt)
spelling_on_line Greater = ((refl, tt), lit< tt)
spelling_on_line Bar = ((refl, tt), lit< tt)

found_begins : (s : List ℕ) (ds : List Delimiter) (d : Delimiter) → find (begins_with_delimiter s) ds ≡ Some d → begins_with_delimiter s d ≡ true
found_begins s [] d e = cc
found_begins s (x ∷ xs) d e = by_test (begins_with_delimiter s x) refl e (λ f. found_begins s xs d f)
  where
    by_test : (r : Bool) → begins_with_delimiter s x ≡ r → cond r (Some x) (find (begins_with_delimiter s) xs) ≡ Some d → (find (begins_with_delimiter s) xs ≡ Some d → begins_with_delimiter s d ≡ true) → begins_with_delimiter s d ≡ true
    by_test true b e later = let same : x ≡ d = cc in ap (begins_with_delimiter s) (sym same) ∙ b
    by_test false b e later = later e

-- a text begins with the spelling of the delimiter found in front of it
pub delimiter_front : (s : List ℕ) (d : Delimiter) → delimiter_in_front s ≡ Some d → s ≡ spelling d ++ drop (length (spelling d)) s
unfolding delimiter_in_front
delimiter_front s d h = (starts_is Decides-eqb s (spelling d) (begins_with_delimiter s d) refl).0 (found_begins s delimiters d h)

pub delimiter_bytes : (s : List ℕ) (d : Delimiter) → delimiter_in_front s ≡ Some d → take (length (spelling d)) s ≡ spelling d
delimiter_bytes s d h =
    ap (take (length (spelling d))) (delimiter_front s d h) ∙ take_at (spelling d) (drop (length (spelling d)) s) (length (spelling d)) refl

delimiter_takes : (s : List ℕ) (k : Kind) (n : ℕ) → delimiter_element (delimiter_in_front s) ≡ token k n → Takes s n
delimiter_takes s k n w = by_found (delimiter_in_front s) refl w
  where
    by_found : (o : Option Delimiter) → delimiter_in_front s ≡ o → delimiter_element o ≡ token k n → Takes s n
    by_found None h w = cc
    by_found (Some d) h w = subst (Takes s) (token_len w) (record {
      some = (spelling_on_line d).1;
      within = omega (arith, ap length (delimiter_front s d h), length-append (spelling d) (drop (length (spelling d)) s));
      on_line = All-from_recursion Stays (take (length (spelling d)) s) (subst (AllByRecursion Stays) (sym (delimiter_bytes s d h)) (spelling_on_line d).0);
    })

pub element_takes : (s : List ℕ) (k : Kind) (n : ℕ) → 0 < length s → element s ≡ token k n → Takes s n
element_takes s k n l e = by_first _ _ _ refl refl refl (sym (element_first s l) ∙ e)
  where
    by_first : (p q r : Bool) → is_letter (get_or s 0 0) ≡ p → is_digit (get_or s 0 0) ≡ q → eqb (get_or s 0 0) quote ≡ r
        → cond p (word_element s) (cond q (number_element s) (cond r (string_element (literal (drop 1 s))) (delimiter_element (delimiter_in_front s)))) ≡ token k n → Takes s n
    by_first true q r a b c w = word_takes s k n l a w
    by_first false true r a b c w = number_takes s k n l b w
    by_first false false true a b c w = string_takes s k n l c w
    by_first false false false a b c w = delimiter_takes s k n w
