-- Inputs that are made from numbers and separators, read again.
use Rattle.std.proofs.Common.{◌≡◌, ℕ, suc, ◌+◌, ◌-◌, ◌^◌, ◌<◌, ◌≤◌, ℤ, pos, negsuc, neg_ℤ, List, [], ◌∷◌, ◌++◌, length, get_or, drop, map, nat_lt, nat_le, Bool, cond, ◌&&◌, true, false, Option, Some, None, option_map, Result, Ok, Err, decimal, refl, sym, ◌∙◌, ap, arith}
use Rattle.std.specs.Fmt.{signed_decimal}
use Rattle.std.specs.Str.{all_ascii_digits}
use Rattle.std.specs.Str.Parse.{starts_with_minus}
use Rattle.std.proofs.lemmas.Fmt.{decimal_nonempty, digits_decimal, digits_value-decimal, decimal_is_IsNumeral}
use Rattle.std.proofs.lemmas.Str.Parse.{IsNumeralModel, numerals_by_weight, tells_all_ascii_digits, digit_at}
use Rattle.std.proofs.lemmas.Bool.{ne_eqb}
use Rattle.std.proofs.lemmas.Bool.Decides.{nat_tests}
use Rattle.std.proofs.lemmas.Int.{ints}
use Rattle.std.proofs.lemmas.List.{append_assoc, append-nil, length-append}
use Rattle.std.proofs.lemmas.List.Elements.{All-head, All-tail, All-cons, All-from_get_or}
use Rattle.ada_input.specs.Input.{is_separator, value, magnitude_of, number_of, words_from, before, with_word, numbers_of, input_of}
use Rattle.ada_input.specs.Written.{IsInteger, AreSeparators, HasNoSeparator, EndsWord, Spaced, number_in, written, StandApart, IsBadWord}
use Rattle.ada_input.proofs.WordLemmas.{onto, onto-none, words_from-gap, numbers-word, numbers-none}

-- `value` is what digits stand for
own : IsNumeralModel (λ ds. all_ascii_digits ds ≡ true) value
unfolding value
own = numerals_by_weight _ tells_all_ascii_digits value (record { empty = refl; more = λ c cs r. refl })

magnitude_of-decimal : (greatest n : ℕ) → n ≤ greatest → n < 2 ^ 64 → magnitude_of greatest (decimal n) ≡ Some n
unfolding magnitude_of
magnitude_of-decimal greatest n l h = rw (long, digits_decimal own n h, digits_value-decimal own n h, small) refl
  where
    long : nat_lt 0 (length (decimal n)) ≡ true
    long = let p = decimal_nonempty n h in grind (arith, nat_tests)

    small : nat_le n greatest ≡ true
    small = grind (arith, nat_tests)

magnitude_of-le : (greatest : ℕ) (digits : List ℕ) (n : ℕ) → magnitude_of greatest digits ≡ Some n → n ≤ greatest
unfolding magnitude_of
magnitude_of-le greatest digits n e = below (nat_lt 0 (length digits)) (all_ascii_digits digits) (nat_le (value digits) greatest) refl e
  where
    below : (a b c : Bool) → nat_le (value digits) greatest ≡ c → cond (a && (b && c)) (Some (value digits)) None ≡ Some n → n ≤ greatest
    below true true true s f = let same : value digits ≡ n = cc in grind (arith, nat_tests)
    below true true false s f = absurd (cc)
    below true false c s f = absurd (cc)
    below false b c s f = absurd (cc)

digit-range : (n i : ℕ) → n < 2 ^ 64 → i < length (decimal n) → (48 ≤ get_or (decimal n) i 0) × (get_or (decimal n) i 0 ≤ 57)
digit-range n i h l = let d = digit_at (decimal n) i (decimal_is_IsNumeral n h).0.1 l in d

pub number_of-decimal : (z : ℤ) → IsInteger z → number_of (signed_decimal z) ≡ Some z
unfolding number_of
number_of-decimal (pos n) h =
    let small : n ≤ 2 ^ 31 - 1 = omega (arith, ints) in
    let plain : starts_with_minus (decimal n) ≡ false = ne_eqb (get_or (decimal n) 0 0) 45 (λ e. absurd (omega (arith, e, digit-range n 0 (omega arith) (decimal_nonempty n (omega arith))))) in
    rw (plain, magnitude_of-decimal (2 ^ 31 - 1) n small (omega arith)) refl
number_of-decimal (negsuc n) h =
    let small : suc n ≤ 2 ^ 31 = omega (arith, ints) in
    rw (magnitude_of-decimal (2 ^ 31) (suc n) small (omega arith)) refl

not_separator : (b : ℕ) → 32 < b → is_separator b ≡ false
unfolding is_separator
not_separator b l = rw (ne_eqb b 9 (λ e. omega (arith, e)), ne_eqb b 10 (λ e. omega (arith, e)), ne_eqb b 13 (λ e. omega (arith, e)), ne_eqb b 32 (λ e. omega (arith, e))) refl

decimal-HasNoSeparator : (n : ℕ) → n < 2 ^ 64 → HasNoSeparator (decimal n)
decimal-HasNoSeparator n h = All-from_get_or (λ b. is_separator b ≡ false) (decimal n) 0 (λ i l. not_separator (get_or (decimal n) i 0) (omega (arith, digit-range n i h l)))

pub signed-HasNoSeparator : (z : ℤ) → IsInteger z → HasNoSeparator (signed_decimal z)
signed-HasNoSeparator (pos n) h = decimal-HasNoSeparator n (omega (arith, ints))
signed-HasNoSeparator (negsuc n) h =
    All-cons (λ b. is_separator b ≡ false) 45 (decimal (suc n)) (not_separator 45 (omega arith)) (decimal-HasNoSeparator (suc n) (omega (arith, ints)))

pub signed-nonempty : (z : ℤ) → IsInteger z → 0 < length (signed_decimal z)
signed-nonempty (pos n) h = decimal_nonempty n (omega (arith, ints))
signed-nonempty (negsuc n) h = omega arith

-- separators in front are passed over
pub words_from-gaps : (p : ℕ) (gap s : List ℕ) → AreSeparators gap → words_from p (gap ++ s) ≡ words_from (p + length gap) s
words_from-gaps p [] s h = ap (λ q. words_from q s) (omega arith)
words_from-gaps p (b ∷ bs) s h =
    words_from-gap p b (bs ++ s) (All-head (λ c. is_separator c ≡ true) b bs h)
    ∙ words_from-gaps (p + 1) bs s (All-tail (λ c. is_separator c ≡ true) b bs h)
    ∙ ap (λ q. words_from q s) (omega arith)

before-onto : (n : ℤ) (ns : List ℤ) (behind : Result (List ℤ) ℕ) → before n (onto ns behind) ≡ onto (n ∷ ns) behind
before-onto n ns (Ok ms) = refl
before-onto n ns (Err place) = refl

-- numbers that were written are read again, in front of what is behind them
pub numbers-written : (p : ℕ) (xs : List Spaced) (s : List ℕ) → StandApart xs s → numbers_of (words_from p (written xs ++ s)) ≡ onto (map number_in xs) (numbers_of (words_from (p + length (written xs)) s))
numbers-written p [] s h = ap (λ q. numbers_of (words_from q s)) (omega arith) ∙ sym (onto-none (numbers_of (words_from (p + 0) s)))
numbers-written p (x ∷ xs) s h =
    let text = signed_decimal x.number in
    let rest = written xs ++ s in
    let q = p + length text + length x.gap in
    let split : written (x ∷ xs) ++ s ≡ text ++ (x.gap ++ rest) = append_assoc text (x.gap ++ written xs) s ∙ ap (λ t. text ++ t) (append_assoc x.gap (written xs) s) in
    let word = numbers-word p text (x.gap ++ rest) (signed-HasNoSeparator x.number h.0) (signed-nonempty x.number h.0) h.2 in
    let number : with_word p (number_of text) (numbers_of (words_from (p + length text) (x.gap ++ rest))) ≡ before x.number (numbers_of (words_from (p + length text) (x.gap ++ rest))) = ap (λ n. with_word p n (numbers_of (words_from (p + length text) (x.gap ++ rest)))) (number_of-decimal x.number h.0) in
    let gaps : before x.number (numbers_of (words_from (p + length text) (x.gap ++ rest))) ≡ before x.number (numbers_of (words_from q rest)) = ap (λ ws. before x.number (numbers_of ws)) (words_from-gaps (p + length text) x.gap rest h.1) in
    let more : before x.number (numbers_of (words_from q rest)) ≡ before x.number (onto (map number_in xs) (numbers_of (words_from (q + length (written xs)) s))) = ap (before x.number) (numbers-written q xs s h.3) in
    let size : q + length (written xs) ≡ p + length (written (x ∷ xs)) = omega (arith, length-append text (x.gap ++ written xs), length-append x.gap (written xs)) in
    ap (λ t. numbers_of (words_from p t)) split ∙ word ∙ number ∙ gaps ∙ more
    ∙ before-onto x.number (map number_in xs) (numbers_of (words_from (q + length (written xs)) s))
    ∙ ap (λ r. onto (number_in x ∷ map number_in xs) (numbers_of (words_from r s))) size

pub read_again : (lead : List ℕ) (xs : List Spaced) → AreSeparators lead → StandApart xs [] → input_of (lead ++ written xs) ≡ Ok (map number_in xs)
read_again lead xs blank apart =
    let end : written xs ++ [] ≡ written xs = append-nil (written xs) in
    ap numbers_of (words_from-gaps 1 lead (written xs) blank)
    ∙ ap (λ t. numbers_of (words_from (1 + length lead) t)) (sym end)
    ∙ numbers-written (1 + length lead) xs [] apart
    ∙ ap (onto (map number_in xs)) (numbers-none (1 + length lead + length (written xs)))
    ∙ ap Ok (append-nil (map number_in xs))

pub bad_word : (lead : List ℕ) (xs : List Spaced) (word rest : List ℕ) → AreSeparators lead → StandApart xs (word ++ rest) → IsBadWord word → EndsWord rest → input_of (lead ++ (written xs ++ (word ++ rest))) ≡ Err (1 + length lead + length (written xs))
bad_word lead xs word rest blank apart bad ends =
    let p = 1 + length lead + length (written xs) in
    let here = numbers-word p word rest bad.whole bad.some ends in
    let none : with_word p (number_of word) (numbers_of (words_from (p + length word) rest)) ≡ Err p = ap (λ n. with_word p n (numbers_of (words_from (p + length word) rest))) bad.none in
    ap numbers_of (words_from-gaps 1 lead (written xs ++ (word ++ rest)) blank)
    ∙ numbers-written (1 + length lead) xs (word ++ rest) apart
    ∙ ap (onto (map number_in xs)) (here ∙ none)

pub blank : (gap : List ℕ) → AreSeparators gap → input_of gap ≡ Ok []
blank gap h =
    ap input_of (sym (append-nil gap)) ∙ ap numbers_of (words_from-gaps 1 gap [] h) ∙ numbers-none (1 + length gap)

-- a number that a word writes is an Integer
pub number_of_IsInteger : (word : List ℕ) (z : ℤ) → number_of word ≡ Some z → IsInteger z
unfolding number_of
number_of_IsInteger word z e = sign (starts_with_minus word) e
  where
    negative : (m : Option ℕ) → ((n : ℕ) → m ≡ Some n → n ≤ 2 ^ 31) → option_map (λ n. neg_ℤ (pos n)) m ≡ Some z → IsInteger z
    negative None h f = absurd (cc)
    negative (Some n) h f = let l = h n refl in let same : neg_ℤ (pos n) ≡ z = cc in (omega (arith, ints), omega (arith, ints))

    positive : (m : Option ℕ) → ((n : ℕ) → m ≡ Some n → n ≤ 2 ^ 31 - 1) → option_map pos m ≡ Some z → IsInteger z
    positive None h f = absurd (cc)
    positive (Some n) h f = let l = h n refl in let same : pos n ≡ z = cc in (omega (arith, ints), omega (arith, ints))

    sign : (b : Bool) → cond b (option_map (λ n. neg_ℤ (pos n)) (magnitude_of (2 ^ 31) (drop 1 word))) (option_map pos (magnitude_of (2 ^ 31 - 1) word)) ≡ Some z → IsInteger z
    sign true f = negative (magnitude_of (2 ^ 31) (drop 1 word)) (magnitude_of-le (2 ^ 31) (drop 1 word)) f
    sign false f = positive (magnitude_of (2 ^ 31 - 1) word) (magnitude_of-le (2 ^ 31 - 1) word) f
