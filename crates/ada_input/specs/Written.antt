-- Inputs that are made from numbers and separators.

use Rattle.std.specs.Prelude.{◌≡◌, ℕ, ◌<◌, ◌^◌, ◌-◌, ℤ, pos, neg_ℤ, ◌≤ℤ◌, true, false, List, [], ◌∷◌, ◌++◌, length, All, None}
use Rattle.std.specs.Fmt.{signed_decimal}
use Rattle.ada_input.specs.Input.{is_separator, number_of}

-- A number is in Integer's range (3.5.4).
abbrev pub IsInteger : ℤ → Type 0
IsInteger z = (neg_ℤ (pos (2 ^ 31)) ≤ℤ z) × (z ≤ℤ pos (2 ^ 31 - 1))

-- Only separators are among the bytes.
abbrev pub AreSeparators : List ℕ → Type 0
AreSeparators gap = All (λ b. is_separator b ≡ true) gap

-- No separator is among the bytes.
abbrev pub HasNoSeparator : List ℕ → Type 0
HasNoSeparator word = All (λ b. is_separator b ≡ false) word

-- A word ends in front of these bytes: there are none, or a separator stands first.
abbrev pub EndsWord : List ℕ → Type 0
EndsWord [] = Unit {0}
EndsWord (b ∷ bs) = is_separator b ≡ true

-- A number, and the separators behind it.
pub record Spaced : Type 0 where
  pub number : ℤ
  pub gap : List ℕ

-- The number that is written.
abbrev pub number_in : Spaced → ℤ
number_in x = x.number

-- Numbers in decimal, the separators of each behind it.
abbrev pub written : List Spaced → List ℕ
written [] = []
written (x ∷ xs) = signed_decimal x.number ++ (x.gap ++ written xs)

-- Each is an Integer and stands apart from what follows it; behind the last stand these bytes.
abbrev pub StandApart : List Spaced → (behind : List ℕ) → Type 0
StandApart [] behind = Unit {0}
StandApart (x ∷ xs) behind =
    IsInteger x.number × AreSeparators x.gap × EndsWord (x.gap ++ (written xs ++ behind)) × StandApart xs behind

-- A word that is no number.
pub record IsBadWord (word : List ℕ) : Type 0 where
  pub some : 0 < length word
  pub whole : HasNoSeparator word
  pub none : number_of word ≡ None
