-- What tokens are, without where their text lies in memory.
use Rattle.std.specs.Prelude.{ℕ, List, map}
use Rattle.std.specs.String.{string_bytes}
use Rattle.ada_text.specs.declared.word.Word.{Word}
use Rattle.ada_text.specs.declared.delimiter.Delimiter.{Delimiter}
use Rattle.ada_text.specs.declared.token.Token.{Token}
use Rattle.ada_text.specs.declared.token.TokenKind.{TokenKind}
use Rattle.ada_text.specs.declared.token.TokenKind.TheVariants.{Identifier, Number, Text, Word as AWord, Delimiter as ADelimiter}

-- What kind of token it is, with its letters, its value or its bytes.
pub data Kind : Type 0 where
  identifier : List ℕ → Kind
  number : ℕ → Kind
  string : List ℕ → Kind
  reserved : Word → Kind
  delimiter : Delimiter → Kind

-- A token: what it is, its line and column, and its bytes from..to.
pub record Lexeme : Type 0 where
  pub kind : Kind
  pub line : ℕ
  pub column : ℕ
  pub from : ℕ
  pub to : ℕ

-- The kind of a token, as the code keeps it.
abbrev pub kind_of : TokenKind → Kind
kind_of (Identifier letters) = identifier (string_bytes letters)
kind_of (Number value) = number value
kind_of (Text bytes) = string (string_bytes bytes)
kind_of (AWord word) = reserved word
kind_of (ADelimiter d) = delimiter d

-- A token, as the code keeps it.
abbrev pub lexeme_of : Token → Lexeme
lexeme_of t = record { kind = kind_of t.kind; line = t.line; column = t.column; from = t.from; to = t.to }

-- Tokens, as the code keeps them.
abbrev pub lexemes_of : List Token → List Lexeme
lexemes_of tokens = map lexeme_of tokens
