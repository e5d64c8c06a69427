-- What a text begins with: a token, or a fault.
use Rattle.std.specs.Prelude.{ℕ, ◌+◌, List, [], ◌∷◌, Option, Some, None, length, drop, take, map, nat_le, nat_lt, if◌then◌else◌, ◌&&◌, ◌||◌, ◌==◌, Bool, false}
use Rattle.std.specs.List.{take_while}
use Rattle.std.specs.Char.{to_ascii_uppercase}
use Rattle.ada_text.specs.declared.word.Word.{Word}
use Rattle.ada_text.specs.declared.delimiter.Delimiter.{Delimiter}
use Rattle.ada_text.specs.declared.limits.TheConstants.{LONGEST_IDENTIFIER, GREATEST_NUMBER}
use Rattle.ada_text.specs.declared.element.Flaw.{Flaw}
use Rattle.ada_text.specs.declared.element.Flaw.TheVariants.{ByteNotAllowed, OpenString, NumberRange, IdentifierForm}
use Rattle.ada_text.specs.Bytes.{is_letter, is_digit, is_word_byte, quote, underscore}
use Rattle.ada_text.specs.Identifier.{underscores_stand_alone}
use Rattle.ada_text.specs.Word.{reserved_word}
use Rattle.ada_text.specs.Number.{number_len, value}
use Rattle.ada_text.specs.Literal.{literal}
use Rattle.ada_text.specs.Delimiter.{delimiter_in_front, spelling}
use Rattle.ada_text.specs.Token.{Kind, identifier, number, string, reserved, delimiter}

-- The end, a token and how many bytes it takes, or what is wrong.
pub data Element : Type 0 where
  nothing : Element
  token : Kind → ℕ → Element
  flaw : Flaw → Element

-- letters in upper case are an identifier unless they are reserved
abbrev pub word_or_identifier : List ℕ → Option Word → Kind
word_or_identifier letters (Some word) = reserved word
word_or_identifier letters None = identifier letters

-- An identifier or a reserved word is the longest run of letters, digits and underscores; case does
-- not matter.
unfoldable pub word_element : List ℕ → Element
word_element text =
    let bytes = take_while is_word_byte text in
    let letters = map to_ascii_uppercase bytes in
    if underscores_stand_alone bytes && nat_le (length bytes) LONGEST_IDENTIFIER
    then token (word_or_identifier letters (reserved_word letters)) (length bytes)
    else flaw IdentifierForm

-- the text's first byte is a letter or an underscore
abbrev pub begins_like_word : List ℕ → Bool
begins_like_word [] = false
begins_like_word (b ∷ bs) = is_letter b || b == underscore

-- A number is in range, and neither a letter nor an underscore follows it at once.
unfoldable pub number_element : List ℕ → Element
number_element text =
    let len = number_len text in
    let worth = value (take len text) in
    if nat_lt GREATEST_NUMBER worth then flaw NumberRange
    else (if begins_like_word (drop len text) then flaw IdentifierForm
    else token (number worth) len)

-- from behind the opening quote
abbrev pub string_element : Option (List ℕ × ℕ) → Element
string_element (Some found) = token (string found.0) (1 + found.1)
string_element None = flaw OpenString

-- The element of a delimiter, where a text begins with one.
abbrev pub delimiter_element : Option Delimiter → Element
delimiter_element (Some d) = token (delimiter d) (length (spelling d))
delimiter_element None = flaw ByteNotAllowed

-- The first byte tells which element it is (2.2).
unfoldable pub element : List ℕ → Element
element [] = nothing
element (b ∷ bs) =
    if is_letter b then word_element (b ∷ bs)
    else (if is_digit b then number_element (b ∷ bs)
    else (if b == quote then string_element (literal bs)
    else delimiter_element (delimiter_in_front (b ∷ bs))))
