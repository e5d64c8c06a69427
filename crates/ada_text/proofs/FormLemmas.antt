-- What is read as a token has the form of its kind.
use Rattle.std.proofs.Common.{◌≡◌, ℕ, suc, ◌+◌, ◌<◌, ◌≤◌, List, [], ◌∷◌, ◌++◌, length, get_or, drop, take, map, cond, true, false, Bool, ◌&&◌, ◌||◌, not, eqb, eqb-true, ltb, leb, ltb-false, leb-true, Option, Some, None, find, refl, sym, ◌∙◌, subst, arith}
use Rattle.std.proofs.Math.Numerals.{one-add}
use Rattle.std.specs.List.{prefix_len, take_while, AllByRecursion, flat_map}
use Rattle.std.specs.Char.{to_ascii_uppercase, is_ascii_alphanumeric}
use Rattle.std.proofs.lemmas.List.{length-drop}
use Rattle.std.proofs.lemmas.List.Elements.{All-from_recursion}
use Rattle.std.proofs.lemmas.List.Folds.{length-prefix_len}
use Rattle.std.proofs.lemmas.Bool.Decides.{nat_tests}
use Rattle.ada_text.specs.declared.word.Word.{Word}
use Rattle.ada_text.specs.declared.delimiter.Delimiter.{Delimiter}
use Rattle.ada_text.specs.declared.element.Flaw.TheVariants.{NumberRange, IdentifierForm}
use Rattle.ada_text.specs.declared.limits.TheConstants.{LONGEST_IDENTIFIER, GREATEST_NUMBER}
use Rattle.ada_text.specs.Bytes.{quote, underscore, is_letter, is_digit, is_word_byte, is_graphic}
use Rattle.ada_text.specs.Gap.{next_start}
use Rattle.ada_text.specs.Identifier.{underscores_stand_alone}
use Rattle.ada_text.specs.Word.{reserved_word, reserved_words, is_spelled}
use Rattle.ada_text.specs.Number.{number_len, value}
use Rattle.ada_text.specs.Literal.{literal, behind}
use Rattle.ada_text.specs.Delimiter.{delimiter_in_front, spelling as delimiter_spelling}
use Rattle.ada_text.specs.Token.{Kind, number, string, delimiter, Lexeme}
use Rattle.ada_text.specs.Element.{element, token, flaw, word_or_identifier, word_element, number_element, string_element, delimiter_element, begins_like_word}
use Rattle.ada_text.specs.Reading.{Reads, complete, Spells}
use Rattle.ada_text.specs.Form.{IsTail, done, next, underlined, IsWord, IsNumeral, quoted, HasForm, HaveForms}
use Rattle.ada_text.proofs.IdentifierLemmas.{beside}
use Rattle.ada_text.proofs.ElementLemmas.{element_first, letter_is_word, token_len, delimiter_bytes}
use Rattle.ada_text.proofs.ReadingLemmas.{token_inside, takes_at}
use Rattle.ada_text.proofs.WordLemmas.{found_passes, among_all}
use Rattle.ada_text.proofs.WritingLemmas.{bytes_of_is, inside, word_of, word_is, number_of, number_is}

-- words
not_underscore : (b : ℕ) → is_word_byte b ≡ true → eqb b underscore ≡ false → is_ascii_alphanumeric b ≡ true
not_underscore b w e = grind (arith, nat_tests)

letter_not_underscore : (b : ℕ) → is_letter b ≡ true → eqb b underscore ≡ false
letter_not_underscore b e = grind (arith, nat_tests)

abbrev IsWordByte : ℕ → Type 0
IsWordByte b = is_word_byte b ≡ true

word_tail : (bs : List ℕ) → AllByRecursion IsWordByte bs → underscores_stand_alone bs ≡ true → IsTail is_ascii_alphanumeric bs
unfolding underscores_stand_alone
word_tail [] h e = done
word_tail (b ∷ []) h e = by_first (eqb b underscore) refl e
  where
    by_first : (p : Bool) → eqb b underscore ≡ p → not p ≡ true → IsTail is_ascii_alphanumeric (b ∷ [])
    by_first true x e = cc
    by_first false x e = next b [] (not_underscore b h.0 x) done
word_tail (b ∷ c ∷ bs) h e = by_both (eqb b underscore) (eqb c underscore) refl refl e (word_tail (c ∷ bs) h.1) (word_tail bs h.1.1)
  where
    by_both : (p q : Bool) → eqb b underscore ≡ p → eqb c underscore ≡ q → (not (p && q) && underscores_stand_alone (c ∷ bs)) ≡ true
        → (underscores_stand_alone (c ∷ bs) ≡ true → IsTail is_ascii_alphanumeric (c ∷ bs)) → (underscores_stand_alone bs ≡ true → IsTail is_ascii_alphanumeric bs) → IsTail is_ascii_alphanumeric (b ∷ c ∷ bs)
    by_both true true x y e more later = cc
    by_both true false x y e more later = rw (eqb-true b underscore x) (underlined c bs (not_underscore c h.1.0 y) (later (sym (beside c bs y) ∙ e)))
    by_both false q x y e more later = next b (c ∷ bs) (not_underscore b h.0 x) (more e)

run_bytes : (s : List ℕ) → AllByRecursion IsWordByte (take_while is_word_byte s)
run_bytes [] = tt
run_bytes (b ∷ bs) = by_test (is_word_byte b) refl (run_bytes bs)
  where
    by_test : (r : Bool) → is_word_byte b ≡ r → AllByRecursion IsWordByte (take (prefix_len is_word_byte bs) bs) → AllByRecursion IsWordByte (take (cond r (1 + prefix_len is_word_byte bs) 0) (b ∷ bs))
    by_test true e more = rw one-add (e, more)
    by_test false e more = tt

run_form : (s : List ℕ) → 0 < length s → is_letter (get_or s 0 0) ≡ true → underscores_stand_alone (take_while is_word_byte s) ≡ true → IsWord (take_while is_word_byte s)
run_form [] l a e = absurd (omega arith)
run_form (b ∷ bs) l a e =
    let front : take_while is_word_byte (b ∷ bs) ≡ b ∷ take_while is_word_byte bs = rw (letter_is_word b a, one-add) refl in
    let rest : underscores_stand_alone (take_while is_word_byte bs) ≡ true = sym (beside b (take_while is_word_byte bs) (letter_not_underscore b a)) ∙ rw front at e in
    subst IsWord (sym front) (a, word_tail (take_while is_word_byte bs) (run_bytes bs) rest)

letters_form : (bytes : List ℕ) (o : Option Word) → reserved_word (map to_ascii_uppercase bytes) ≡ o → IsWord bytes → length bytes ≤ LONGEST_IDENTIFIER → HasForm (word_or_identifier (map to_ascii_uppercase bytes) o) bytes
unfolding reserved_word
letters_form bytes (Some word) h w l = found_passes (map to_ascii_uppercase bytes) reserved_words word h
letters_form bytes None h w l = (w, l, refl, λ word e. let no : None ≡ Some word = sym h ∙ subst (λ x. find (is_spelled x) reserved_words ≡ Some word) (sym e) (among_all word) in cc)

word_of-token : (bytes : List ℕ) (k : Kind) (n : ℕ) → word_of bytes ≡ token k n
    → (underscores_stand_alone bytes ≡ true) × (leb (length bytes) LONGEST_IDENTIFIER ≡ true) × (word_or_identifier (map to_ascii_uppercase bytes) (reserved_word (map to_ascii_uppercase bytes)) ≡ k) × (length bytes ≡ n)
unfolding word_of
word_of-token bytes k n e = by_tests (underscores_stand_alone bytes) (leb (length bytes) LONGEST_IDENTIFIER) e
  where
    by_tests : (p q : Bool) → cond (p && q) (token (word_or_identifier (map to_ascii_uppercase bytes) (reserved_word (map to_ascii_uppercase bytes))) (length bytes)) (flaw IdentifierForm) ≡ token k n
        → (p ≡ true) × (q ≡ true) × (word_or_identifier (map to_ascii_uppercase bytes) (reserved_word (map to_ascii_uppercase bytes)) ≡ k) × (length bytes ≡ n)
    by_tests true true e = (refl, refl, cc, cc)
    by_tests true false e = absurd (let no : ⊥ = cc in no)
    by_tests false q e = absurd (let no : ⊥ = cc in no)

word_form : (s : List ℕ) (k : Kind) (n : ℕ) → 0 < length s → is_letter (get_or s 0 0) ≡ true → word_element s ≡ token k n → HasForm k (take n s)
word_form s k n l a e =
    let bytes = take_while is_word_byte s in
    let found = word_of-token bytes k n (sym (word_is s) ∙ e) in
    let len : prefix_len is_word_byte s ≡ n = sym (length-prefix_len is_word_byte s) ∙ found.3 in
    let form = letters_form bytes (reserved_word (map to_ascii_uppercase bytes)) refl (run_form s l a found.0) (leb-true (length bytes) LONGEST_IDENTIFIER found.1) in
    subst (λ m. HasForm k (take m s)) len (subst (λ x. HasForm x bytes) found.2 form)

-- numbers
number_tail : (bs : List ℕ) → IsTail is_digit (take (number_len bs) bs)
unfolding number_len
number_tail [] = done
number_tail (b ∷ []) = by_first (is_digit b) (eqb b 95) refl
  where
    by_first : (p q : Bool) → is_digit b ≡ p → IsTail is_digit (take (cond (p || (q && false)) (1 + 0) 0) (b ∷ []))
    by_first true q x = next b [] x done
    by_first false true x = done
    by_first false false x = done
number_tail (b ∷ c ∷ cs) = by_tests (is_digit b) (eqb b 95) (is_digit c) refl refl refl (number_tail (c ∷ cs)) (number_tail cs)
  where
    by_tests : (p q r : Bool) → is_digit b ≡ p → eqb b 95 ≡ q → is_digit c ≡ r → IsTail is_digit (take (number_len (c ∷ cs)) (c ∷ cs)) → IsTail is_digit (take (number_len cs) cs)
        → IsTail is_digit (take (cond (p || (q && r)) (1 + number_len (c ∷ cs)) 0) (b ∷ c ∷ cs))
    by_tests true q r x y z more later = rw one-add (next b _ x more)
    by_tests false true true x y z more later = rw one-add (rw (z, one-add, eqb-true b 95 y) (underlined c _ z later))
    by_tests false true false x y z more later = done
    by_tests false false r x y z more later = done

numeral_form : (s : List ℕ) → 0 < length s → is_digit (get_or s 0 0) ≡ true → IsNumeral (take (number_len s) s)
unfolding number_len
numeral_form [] l a = absurd (omega arith)
numeral_form (b ∷ bs) l a = rw (a, one-add) (a, number_tail bs)

number_parts : (digits : List ℕ) (followed : Bool) (len : ℕ) (k : Kind) (n : ℕ) → number_of digits followed len ≡ token k n → (value digits ≤ GREATEST_NUMBER) × (number (value digits) ≡ k) × (len ≡ n)
unfolding number_of
number_parts digits followed len k n e = by_tests (ltb GREATEST_NUMBER (value digits)) followed refl e
  where
    by_tests : (r f : Bool) → ltb GREATEST_NUMBER (value digits) ≡ r → cond r (flaw NumberRange) (cond f (flaw IdentifierForm) (token (number (value digits)) len)) ≡ token k n
        → (value digits ≤ GREATEST_NUMBER) × (number (value digits) ≡ k) × (len ≡ n)
    by_tests true f h e = absurd (let no : ⊥ = cc in no)
    by_tests false true h e = absurd (let no : ⊥ = cc in no)
    by_tests false false h e = (ltb-false GREATEST_NUMBER (value digits) h, cc, cc)

number_form : (s : List ℕ) (k : Kind) (n : ℕ) → 0 < length s → is_digit (get_or s 0 0) ≡ true → number_element s ≡ token k n → HasForm k (take n s)
number_form s k n l a e =
    let digits = take (number_len s) s in
    let parts = number_parts digits (begins_like_word (drop (number_len s) s)) (number_len s) k n (sym (number_is s) ∙ e) in
    subst (λ m. HasForm k (take m s)) parts.2 (subst (λ x. HasForm x digits) parts.1 (numeral_form s l a, refl, parts.0))

-- strings
abbrev IsGraphic : ℕ → Type 0
IsGraphic b = is_graphic b ≡ true

abbrev IsText : List ℕ → List ℕ × ℕ → Type 0
IsText s f = (take f.1 s ≡ flat_map quoted f.0 ++ quote ∷ []) × AllByRecursion IsGraphic f.0

closed_form : (b : ℕ) (bs : List ℕ) (f : List ℕ × ℕ) → eqb b quote ≡ true → Some ([], 1) ≡ Some f → IsText (b ∷ bs) f
closed_form b bs f q e = let same : ([], 1) ≡ f = cc in subst (IsText (b ∷ bs)) same (rw (eqb-true b quote q) refl, tt)

doubled_form : (b c : ℕ) (bs : List ℕ) (g : List ℕ × ℕ) → eqb b quote ≡ true → eqb c quote ≡ true → IsText bs g → IsText (b ∷ c ∷ bs) (quote ∷ g.0, 2 + g.1)
doubled_form b c bs g x y form =
    let two : 2 + g.1 ≡ suc (suc g.1) = omega arith in
    (rw (two, eqb-true b quote x, eqb-true c quote y, form.0) refl, (refl, form.1))

graphic_form : (b : ℕ) (bs : List ℕ) (g : List ℕ × ℕ) → eqb b quote ≡ false → is_graphic b ≡ true → IsText bs g → IsText (b ∷ bs) (b ∷ g.0, 1 + g.1)
graphic_form b bs g x z form = (rw (one-add, x, form.0) refl, (z, form.1))

literal_form : (s : List ℕ) (f : List ℕ × ℕ) → literal s ≡ Some f → IsText s f
unfolding literal
literal_form [] f e = absurd (let no : ⊥ = cc in no)
literal_form (b ∷ []) f e = by_quote (eqb b quote) refl e
  where
    by_quote : (r : Bool) → eqb b quote ≡ r → cond r (Some ([], 1)) None ≡ Some f → IsText (b ∷ []) f
    by_quote true q e = closed_form b [] f q e
    by_quote false q e = absurd (let no : ⊥ = cc in no)
literal_form (b ∷ c ∷ bs) f e = by_quote (eqb b quote) (eqb c quote) (is_graphic b) refl refl refl (literal_form bs) (literal_form (c ∷ bs)) e
  where
    by_quote : (p q r : Bool) → eqb b quote ≡ p → eqb c quote ≡ q → is_graphic b ≡ r
        → ((g : List ℕ × ℕ) → literal bs ≡ Some g → IsText bs g) → ((g : List ℕ × ℕ) → literal (c ∷ bs) ≡ Some g → IsText (c ∷ bs) g)
        → cond p (cond q (behind quote 2 (literal bs)) (Some ([], 1))) (cond r (behind b 1 (literal (c ∷ bs))) None) ≡ Some f → IsText (b ∷ c ∷ bs) f
    by_quote true true r x y z later more e =
        let found = inside quote 2 (literal bs) f e in
        subst (IsText (b ∷ c ∷ bs)) (sym found.2) (doubled_form b c bs found.0 x y (later found.0 found.1))
    by_quote true false r x y z later more e = closed_form b (c ∷ bs) f x e
    by_quote false q true x y z later more e =
        let found = inside b 1 (literal (c ∷ bs)) f e in
        subst (IsText (b ∷ c ∷ bs)) (sym found.2) (graphic_form b (c ∷ bs) found.0 x z (more found.0 found.1))
    by_quote false q false x y z later more e = absurd (let no : ⊥ = cc in no)

string_form : (s : List ℕ) (k : Kind) (n : ℕ) → 0 < length s → eqb (get_or s 0 0) quote ≡ true → string_element (literal (drop 1 s)) ≡ token k n → HasForm k (take n s)
string_form [] k n l a e = absurd (omega arith)
string_form (b ∷ bs) k n l a e = by_literal (literal bs) refl e
  where
    by_literal : (o : Option (List ℕ × ℕ)) → literal bs ≡ o → string_element o ≡ token k n → HasForm k (take n (b ∷ bs))
    by_literal None h w = absurd (let no : ⊥ = cc in no)
    by_literal (Some f) h w =
        let form = literal_form bs f h in
        let kind : string f.0 ≡ k = cc in
        let len : suc f.1 ≡ n = sym (one-add f.1) ∙ token_len w in
        subst (λ m. HasForm k (take m (b ∷ bs))) len (subst (λ x. HasForm x (b ∷ take f.1 bs)) kind
        (All-from_recursion IsGraphic f.0 form.1, rw (eqb-true b quote a, form.0) refl))

-- delimiters
delimiter_form : (s : List ℕ) (k : Kind) (n : ℕ) → delimiter_element (delimiter_in_front s) ≡ token k n → HasForm k (take n s)
delimiter_form s k n e = by_found (delimiter_in_front s) refl e
  where
    by_found : (o : Option Delimiter) → delimiter_in_front s ≡ o → delimiter_element o ≡ token k n → HasForm k (take n s)
    by_found None h w = absurd (let no : ⊥ = cc in no)
    by_found (Some d) h w =
        let kind : delimiter d ≡ k = cc in
        subst (λ m. HasForm k (take m s)) (token_len w) (subst (λ x. HasForm x (take (length (delimiter_spelling d)) s)) kind (delimiter_bytes s d h))

element_form : (s : List ℕ) (k : Kind) (n : ℕ) → 0 < length s → element s ≡ token k n → HasForm k (take n s)
element_form s k n l e = by_first (is_letter (get_or s 0 0)) (is_digit (get_or s 0 0)) (eqb (get_or s 0 0) quote) refl refl refl (sym (element_first s l) ∙ e)
  where
    by_first : (p q r : Bool) → is_letter (get_or s 0 0) ≡ p → is_digit (get_or s 0 0) ≡ q → eqb (get_or s 0 0) quote ≡ r
        → cond p (word_element s) (cond q (number_element s) (cond r (string_element (literal (drop 1 s))) (delimiter_element (delimiter_in_front s)))) ≡ token k n → HasForm k (take n s)
    by_first true q r a b c w = word_form s k n l a w
    by_first false true r a b c w = number_form s k n l b w
    by_first false false true a b c w = string_form s k n l c w
    by_first false false false a b c w = delimiter_form s k n w

-- each token of a reading
forms_from : (source : List ℕ) (i : ℕ) (ts : List Lexeme) → Reads source i ts complete → HaveForms source ts
forms_from source i [] r = tt
forms_from source i (t ∷ ts) r =
    let takes = takes_at source i t (token_inside source i t r.0) r.0 in
    let some : 0 < length (drop i source) = omega (arith, takes.within, takes.some, length-drop i source) in
    (subst (HasForm t.kind) (sym (bytes_of_is source i t r.0)) (element_form (drop i source) t.kind r.0.len some r.0.spelled), forms_from source (next_start source t.to) ts r.1)

pub HaveForms-Spells : (source : List ℕ) (ts : List Lexeme) → Spells source ts → HaveForms source ts
HaveForms-Spells source ts h = forms_from source (next_start source 0) ts h.reads
