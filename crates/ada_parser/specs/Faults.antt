-- Where reading stops, and the fault that is told of it.

use Rattle.std.specs.Prelude.{◌≡◌, ◌+◌, ◌-◌, min, List, [], ◌∷◌, length, slice_get, Option, Some, None, Ok, Err}
use Rattle.ada_text.specs.declared.spot.Spot.{Spot}
use Rattle.ada_text.specs.Token.{Lexeme}
use Rattle.ada_tree.specs.Statements.{UnitTree}
use Rattle.ada_tree.specs.StatementView.{unit_of}
use Rattle.ada_phrases.specs.declared.unit.Parsed.{Parsed}
use Rattle.ada_phrases.specs.Units.{whole_at}
use Rattle.ada_parser.specs.declared.fault.SyntaxFault.{SyntaxFault}
use Rattle.ada_parser.specs.declared.fault.SyntaxFault.TheVariants.{UnexpectedToken, TooDeep, EndOfSource, NoMemory}
use Rattle.ada_reader.specs.Step.{Outcome, Stopped, here, too_deep, spot_of}

-- Just after a token: its column and its width, but no column is above the greatest number of 32 bits; 1:1 where there is none.
abbrev pub spot_after : Option Lexeme → Spot
spot_after None = record { line = 1; column = 1 }
spot_after (Some t) = record { line = t.line; column = min (t.column + (t.to - t.from)) 4294967295 }

-- Just after the last token.
abbrev pub end_spot : List Lexeme → Spot
end_spot tokens = spot_after (slice_get tokens (length tokens - 1))

-- The fault at the first of the tokens that are left; at the end of all of them where none is.
abbrev pub IsFaultAt : SyntaxFault → List Lexeme → List Lexeme → Type 0
IsFaultAt (UnexpectedToken spot) tokens [] = ⊥
IsFaultAt (UnexpectedToken spot) tokens (t ∷ left) = spot ≡ spot_of t
IsFaultAt (TooDeep spot) tokens left = ⊥
IsFaultAt (EndOfSource spot) tokens [] = spot ≡ end_spot tokens
IsFaultAt (EndOfSource spot) tokens (t ∷ left) = ⊥
IsFaultAt NoMemory tokens left = ⊥

-- The fault of these tokens, where reading them stops; running out of memory says nothing of them.
abbrev pub IsFaultOf : SyntaxFault → List Lexeme → Stopped → Type 0
IsFaultOf NoMemory tokens stopped = Unit {0}
IsFaultOf fault tokens (here left) = IsFaultAt fault tokens left
IsFaultOf fault tokens (too_deep spot) = fault ≡ TooDeep spot

-- Reading stops, and the fault tells where; running out of memory says nothing of the tokens.
abbrev pub TellsStop : {A : Type 0} → SyntaxFault → List Lexeme → Outcome A → Type 0
TellsStop NoMemory tokens read = Unit {0}
TellsStop fault tokens (Ok x) = ⊥
TellsStop fault tokens (Err stopped) = IsFaultOf fault tokens stopped

-- All of the tokens are read as this tree.
abbrev pub IsWhole : Parsed → List Lexeme → Type 0
IsWhole parsed tokens = whole_at tokens ≡ Ok (unit_of parsed.unit, [])

-- The fault tells where reading all of the tokens stops.
abbrev pub TellsWhole : SyntaxFault → List Lexeme → Type 0
TellsWhole fault tokens = TellsStop fault tokens (whole_at tokens)

-- The tree of a source, as plain data.
abbrev pub parsed_unit : Parsed → UnitTree
parsed_unit parsed = unit_of parsed.unit
