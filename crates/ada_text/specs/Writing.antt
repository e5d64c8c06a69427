-- Writing the tokens of a source again, with blanks between them.
use Rattle.std.specs.Prelude.{◌≡◌, ℕ, ◌-◌, List, [], ◌∷◌, ◌++◌, drop, take, map}
use Rattle.ada_text.specs.Bytes.{blank}
use Rattle.ada_text.specs.Token.{Kind, Lexeme}
use Rattle.ada_text.specs.Reading.{Spells}

-- the token's bytes in its source
abbrev pub bytes_of : List ℕ → Lexeme → List ℕ
bytes_of source t = take (t.to - t.from) (drop t.from source)

-- Each token's bytes as they stand in the source, and a blank behind them.
unfoldable pub written : List ℕ → List Lexeme → List ℕ
written source [] = []
written source (t ∷ ts) = bytes_of source t ++ blank ∷ written source ts

-- The kind of a token.
abbrev pub kind_in : Lexeme → Kind
kind_in t = t.kind

-- What was written is read as tokens of the same kinds, if it is not too long to be read.
pub record IsReadAgain (source : List ℕ) (ts : List Lexeme) : Type 0 where
  pub us : List Lexeme
  pub spelled : Spells (written source ts) us
  pub kinds : map kind_in us ≡ map kind_in ts
