-- The first fault of a list of tokens, from the left.

use Rattle.std.specs.Prelude.{◌≡◌, ◌<◌, ◌⊎◌, true, List, [], ◌∷◌, ◌++◌, length}
use Rattle.ada_text.specs.declared.spot.Spot.{Spot}
use Rattle.ada_text.specs.declared.word.Word.TheVariants.{New}
use Rattle.ada_text.specs.Token.{Kind, reserved, Lexeme}
use Rattle.ada_tree.specs.Piece.{Piece, deep, Written, Spelled}
use Rattle.ada_tree.specs.Statements.{UnitTree, unit_pieces, deepest}
use Rattle.ada_parser.specs.declared.fault.SyntaxFault.{SyntaxFault}
use Rattle.ada_parser.specs.declared.fault.SyntaxFault.TheVariants.{UnexpectedToken, TooDeep, EndOfSource, NoMemory}
use Rattle.ada_reader.specs.Step.{spot_of, at}
use Rattle.ada_parser.specs.Faults.{end_spot}

-- What may stand in place of the tokens that are left: it begins with `new` only where they do. So `procedure P is` begins an instance only where `new` follows, and else a body.
abbrev pub MayFollow : List Lexeme → List Lexeme → Type 0
MayFollow left more = at (reserved New) more ≡ true → at (reserved New) left ≡ true

-- A unit that begins with the front, however deep it is nested; behind the front stands what may stand in place of the tokens that are left.
pub record GoesOn (front left : List Lexeme) : Type 0 where
  pub unit : UnitTree
  pub more : List Lexeme
  pub follows : MayFollow left more
  pub text : Spelled (unit_pieces deepest unit) (front ++ more) []

-- In its first tokens the unit opens no level of nesting too many.
pub record StaysWithin (unit : UnitTree) (tokens : List Lexeme) : Type 0 where
  pub shallow : List Piece
  pub behind : List Piece
  pub whole : unit_pieces deepest unit ≡ shallow ++ behind
  pub written : Written shallow tokens []

-- One of its first tokens is the first that opens a level of nesting too many in the unit.
pub record GoesPast (unit : UnitTree) (tokens : List Lexeme) : Type 0 where
  pub before : List Lexeme
  pub token : Lexeme
  pub after : List Lexeme
  pub stands : tokens ≡ before ++ token ∷ after
  pub shallow : List Piece
  pub kind : Kind
  pub behind : List Piece
  pub whole : unit_pieces deepest unit ≡ shallow ++ (deep kind ∷ behind)
  pub written : Written shallow before []
  pub opens : token.kind ≡ kind

-- The tokens begin some unit, however deep it is nested.
abbrev pub BeginsAside : List Lexeme → Type 0
BeginsAside tokens = (u : UnitTree) × (more : List Lexeme) × Spelled (unit_pieces deepest u) (tokens ++ more) []

-- This token stands where none can that goes on from those before it to a unit; those before it do begin one, and open no level too many in it.
pub record IsUnexpected (tokens : List Lexeme) (spot : Spot) : Type 0 where
  pub before : List Lexeme
  pub token : Lexeme
  pub after : List Lexeme
  pub stands : tokens ≡ before ++ token ∷ after
  pub its_spot : spot ≡ spot_of token
  pub begins : GoesOn before (token ∷ after)
  pub within : StaysWithin begins.unit before
  pub goes_no_further : BeginsAside (before ++ token ∷ []) → ⊥

-- The tokens begin a unit, open no level too many in it, and are none, however deep it is nested.
pub record EndsEarly (tokens : List Lexeme) (spot : Spot) : Type 0 where
  pub its_spot : spot ≡ end_spot tokens
  pub begins : GoesOn tokens []
  pub within : StaysWithin begins.unit tokens
  pub has_none : (u : UnitTree) → Spelled (unit_pieces deepest u) tokens [] → ⊥

-- The token at this spot is the first that opens a level too many in some unit that goes on from a front of the tokens. Every unit that goes on from the front opens one there or before; and every one that takes the next token too opens its first there.
-- The two differ where the formals of a procedure stand past the limit: their parenthesis is too deep in a specification, the first word in a body, and a body is told where `is` shows it.
pub record IsTooDeep (tokens : List Lexeme) (spot : Spot) : Type 0 where
  pub front : List Lexeme
  pub left : List Lexeme
  pub stands : tokens ≡ front ++ left
  pub begins : GoesOn front left
  pub past : GoesPast begins.unit front
  pub its_spot : spot ≡ spot_of past.token
  pub others : (u : GoesOn front left) → (p : GoesPast u.unit front) × ((spot_of p.token ≡ spot) ⊎ (length p.before < length past.before))
  pub next : (token : Lexeme) (rest : List Lexeme) → left ≡ token ∷ rest → (u : GoesOn (front ++ token ∷ []) rest) → (p : GoesPast u.unit front) × (spot_of p.token ≡ spot)

-- The first fault of the tokens; running out of memory says nothing of them.
abbrev pub IsFirstFault : List Lexeme → SyntaxFault → Type 0
IsFirstFault tokens (UnexpectedToken spot) = IsUnexpected tokens spot
IsFirstFault tokens (TooDeep spot) = IsTooDeep tokens spot
IsFirstFault tokens (EndOfSource spot) = EndsEarly tokens spot
IsFirstFault tokens NoMemory = Unit {0}
