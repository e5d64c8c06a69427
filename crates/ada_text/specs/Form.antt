-- The forms of tokens, as the manual's grammar gives them.
use Rattle.std.specs.Prelude.{◌≡◌, ◌≢◌, ℕ, ◌≤◌, Bool, true, List, [], ◌∷◌, ◌++◌, length, map, if◌then◌else◌, ◌==◌}
use Rattle.std.specs.List.{AllPass, flat_map}
use Rattle.std.specs.Char.{to_ascii_uppercase, is_ascii_alphanumeric}
use Rattle.ada_text.specs.declared.word.Word.{Word}
use Rattle.ada_text.specs.declared.limits.TheConstants.{LONGEST_IDENTIFIER, GREATEST_NUMBER}
use Rattle.ada_text.specs.Bytes.{quote, underscore, is_letter, is_digit, is_graphic}
use Rattle.ada_text.specs.Word.{spelling}
use Rattle.ada_text.specs.Delimiter.{spelling as delimiter_spelling}
use Rattle.ada_text.specs.Number.{value}
use Rattle.ada_text.specs.Token.{Kind, Lexeme, identifier, number, string, reserved, delimiter}
use Rattle.ada_text.specs.Writing.{bytes_of}

-- {[underline] b} for bytes b that pass the test
pub data IsTail (test : ℕ → Bool) : List ℕ → Type 0 where
  done : IsTail test []
  next : (b : ℕ) (bs : List ℕ) → test b ≡ true → IsTail test bs → IsTail test (b ∷ bs)
  underlined : (b : ℕ) (bs : List ℕ) → test b ≡ true → IsTail test bs → IsTail test (underscore ∷ b ∷ bs)

-- identifier ::= letter {[underline] letter_or_digit} (2.3)
abbrev pub IsWord : List ℕ → Type 0
IsWord [] = ⊥
IsWord (b ∷ bs) = (is_letter b ≡ true) × IsTail is_ascii_alphanumeric bs

-- numeral ::= digit {[underline] digit} (2.4.1)
abbrev pub IsNumeral : List ℕ → Type 0
IsNumeral [] = ⊥
IsNumeral (b ∷ bs) = (is_digit b ≡ true) × IsTail is_digit bs

-- a byte of a string as it stands between the quotes: a quote is doubled (2.6)
abbrev pub quoted : ℕ → List ℕ
quoted b = if b == quote then quote ∷ quote ∷ [] else b ∷ []

-- These bytes have the form of a token of this kind.
abbrev pub HasForm : Kind → List ℕ → Type 0
HasForm (identifier letters) bytes =
    IsWord bytes × (length bytes ≤ LONGEST_IDENTIFIER) × (letters ≡ map to_ascii_uppercase bytes) × ((word : Word) → letters ≢ spelling word)
HasForm (number n) bytes = IsNumeral bytes × (n ≡ value bytes) × (n ≤ GREATEST_NUMBER)
HasForm (string text) bytes = AllPass is_graphic text × (bytes ≡ quote ∷ (flat_map quoted text ++ quote ∷ []))
HasForm (reserved word) bytes = map to_ascii_uppercase bytes ≡ spelling word
HasForm (delimiter d) bytes = bytes ≡ delimiter_spelling d

-- Each token's bytes in the source have the form of its kind.
abbrev pub HaveForms : List ℕ → List Lexeme → Type 0
HaveForms source [] = Unit {0}
HaveForms source (t ∷ ts) = HasForm t.kind (bytes_of source t) × HaveForms source ts
