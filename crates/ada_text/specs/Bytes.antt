-- The classes of bytes that tokens are told apart by (2.1, 2.2).
use Rattle.std.specs.Prelude.{ℕ, Bool, false, ◌||◌, ◌==◌, not, List, [], ◌∷◌}
use Rattle.std.specs.Char.{is_ascii_alphabetic, is_ascii_digit, is_ascii_alphanumeric}
use Rattle.std.specs.Int.{is_in_range}

-- The byte that ends a line.
abbrev pub line_feed : ℕ
line_feed = 10

-- The byte of a blank.
abbrev pub blank : ℕ
blank = 32

-- The byte of a quotation mark.
abbrev pub quote : ℕ
quote = 34

-- The byte of a hyphen, two of which begin a comment.
abbrev pub hyphen : ℕ
hyphen = 45

-- The byte of an underscore.
abbrev pub underscore : ℕ
underscore = 95

-- a tab, a line feed, a carriage return and a blank separate tokens
abbrev pub is_separator : ℕ → Bool
is_separator b = b == 9 || b == line_feed || b == 13 || b == blank

-- the line goes on behind it
abbrev pub stays_on_line : ℕ → Bool
stays_on_line b = not (b == line_feed)

-- Whether a byte ends its line (2.2).
abbrev pub ends_line : ℕ → Bool
ends_line b = b == line_feed

-- Whether a byte is a letter (2.1).
abbrev pub is_letter : ℕ → Bool
is_letter b = is_ascii_alphabetic b

-- Whether a byte is a digit (2.1).
abbrev pub is_digit : ℕ → Bool
is_digit b = is_ascii_digit b

-- what identifiers and reserved words are made of
abbrev pub is_word_byte : ℕ → Bool
is_word_byte b = is_ascii_alphanumeric b || b == underscore

-- what may stand between the quotes of a string literal
abbrev pub is_graphic : ℕ → Bool
is_graphic b = is_in_range 32 126 b

-- the text's first byte is b
abbrev pub begins_with : ℕ → List ℕ → Bool
begins_with b [] = false
begins_with b (c ∷ cs) = c == b
