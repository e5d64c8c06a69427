-- The number that a word gives, by what `parse` answers.

use Rattle.std.proofs.Common.{◌≡◌, ℕ, ◌<◌, ◌&&◌, if◌then◌else◌, Bool, true, false, List, [], ◌∷◌, Some, None, Result, Ok, Err, arith, rules, refl, sym, ◌∙◌, nat_lt}
use Rattle.std.specs.Char.{is_ascii_digit}
use Rattle.std.specs.List.{list_all}
use Rattle.std.specs.Str.Parse.{ParsesUnsigned}
use Rattle.std.proofs.lemmas.Bool.{lt-ltb, ltb-true}
use Rattle.std.proofs.lemmas.Str.Parse.{IsNumeralModel, numerals_by_fold, parse_digits}
use Rattle.ada_serve.specs.Settings.{number_behind, number_of}

-- The words of `specs/Settings.antt` are those of numerals.
own : IsNumeralModel (λ ds. list_all is_ascii_digit ds ≡ true) (number_behind 0)
own = numerals_by_fold _ (search rules) number_behind (search rules)

-- What is no numeral of digits alone gives no number.
pub not_digits : (word : List ℕ) → list_all is_ascii_digit word ≡ false → None ≡ number_of word
not_digits [] e = refl
not_digits (c ∷ cs) e = rw e refl

-- A numeral that fits gives its number.
pub fitting : {E : Type 0} (word : List ℕ) (r : Result ℕ E) (n : ℕ) → list_all is_ascii_digit word ≡ true → ParsesUnsigned 32 10 word r → r ≡ Ok n → Some n ≡ number_of word
fitting {E = E} [] (Ok m) n digits h e =
    let p = parse_digits own {E = E} 32 [] (Ok m) h digits in
    absurd (omega (arith, p.0.0))
fitting {E = E} (c ∷ cs) (Ok m) n digits h e =
    let p = parse_digits own {E = E} 32 (c ∷ cs) (Ok m) h digits in
    let one : m ≡ n = cc in
    let is : number_behind 0 (c ∷ cs) ≡ n = sym p.1 ∙ one in
    let fits : n < 4294967296 = omega (arith, p.0.1, is) in
    rw (digits, is, lt-ltb n 4294967296 fits) refl
fitting word (Err fault) n digits h e = absurd (cc)

-- One that does not fit gives none.
unfit : (n : ℕ) (fits : Bool) → nat_lt n 4294967296 ≡ fits → (n < 4294967296 → ⊥) → fits ≡ false
unfit n true e h = absurd (h (ltb-true n 4294967296 e))
unfit n false e h = refl

cut : (digits fits : Bool) (n : ℕ) → fits ≡ false → None ≡ (if digits && fits then Some n else None)
cut true fits n e = rw e refl
cut false fits n e = refl

pub unreadable : {E : Type 0} (word : List ℕ) (r : Result ℕ E) (fault : E) → list_all is_ascii_digit word ≡ true → ParsesUnsigned 32 10 word r → r ≡ Err fault → None ≡ number_of word
unreadable word (Ok m) fault digits h e = absurd (cc)
unreadable [] (Err other) fault digits h e = refl
unreadable {E = E} (c ∷ cs) (Err other) fault digits h e =
    let n : ℕ = number_behind 0 (c ∷ cs) in
    let p = parse_digits own {E = E} 32 (c ∷ cs) (Err other) h digits in
    cut (list_all is_ascii_digit (c ∷ cs)) (nat_lt n 4294967296) n (unfit n (nat_lt n 4294967296) refl (λ lt. p (omega arith, lt)))
