-- The delimiters (2.2).
use Rattle.std.specs.Prelude.{ℕ, Bool, List, [], ◌∷◌, Option, find, codes, nat_eq}
use Rattle.std.specs.List.{starts_with}
use Rattle.ada_text.specs.declared.delimiter.Delimiter.{Delimiter}
use Rattle.ada_text.specs.declared.delimiter.Delimiter.TheVariants.{Assign, NotEqual, LessEqual, GreaterEqual, Arrow, DoubleDot, LeftParenthesis, RightParenthesis, Comma, Semicolon, Colon, Dot, Tick, Plus, Minus, Star, Slash, Equal, Less, Greater, Bar}

-- how a delimiter is spelled
abbrev pub spelling : Delimiter → List ℕ
spelling Assign = codes ":="
spelling NotEqual = codes "/="
spelling LessEqual = codes "<="
spelling GreaterEqual = codes ">="
spelling Arrow = codes "=>"
spelling DoubleDot = codes ".."
spelling LeftParenthesis = codes "("
spelling RightParenthesis = codes ")"
spelling Comma = codes ","
spelling Semicolon = codes ";"
spelling Colon = codes ":"
spelling Dot = codes "."
spelling Tick = codes "'"
spelling Plus = codes "+"
spelling Minus = codes "-"
spelling Star = codes "*"
spelling Slash = codes "/"
spelling Equal = codes "="
spelling Less = codes "<"
spelling Greater = codes ">"
spelling Bar = codes "|"

-- the compound delimiters first, so that the longest that fits is found
abbrev pub delimiters : List Delimiter
delimiters =
    Assign ∷ NotEqual ∷ LessEqual ∷ GreaterEqual ∷ Arrow ∷ DoubleDot ∷
    LeftParenthesis ∷ RightParenthesis ∷ Comma ∷ Semicolon ∷ Colon ∷ Dot ∷ Tick ∷
    Plus ∷ Minus ∷ Star ∷ Slash ∷ Equal ∷ Less ∷ Greater ∷ Bar ∷ []

-- Whether a text begins with the spelling of a delimiter.
abbrev pub begins_with_delimiter : List ℕ → Delimiter → Bool
begins_with_delimiter text d = starts_with nat_eq text (spelling d)

-- The longest delimiter that a text begins with.
unfoldable pub delimiter_in_front : List ℕ → Option Delimiter
delimiter_in_front text = find (begins_with_delimiter text) delimiters
