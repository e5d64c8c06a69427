-- What a fault says that is told of a whole text.
use Rattle.std.proofs.Common.{◌≡◌, List, [], ◌∷◌, Ok, Err, sym, subst}
use Rattle.ada_text.specs.declared.spot.Spot.{Spot}
use Rattle.ada_text.specs.Token.{Lexeme}
use Rattle.ada_tree.specs.Statements.{UnitTree}
use Rattle.ada_parser.specs.declared.fault.SyntaxFault.{SyntaxFault}
use Rattle.ada_parser.specs.declared.fault.SyntaxFault.TheVariants.{UnexpectedToken, TooDeep, EndOfSource, NoMemory}
use Rattle.ada_reader.specs.Step.{Outcome, Stopped, here, too_deep}
use Rattle.ada_phrases.specs.Units.{whole_at}
use Rattle.ada_parser.specs.FirstFault.{IsFirstFault}
use Rattle.ada_parser.specs.Faults.{IsFaultAt, IsFaultOf, TellsStop}
use Rattle.ada_parser.proofs.Reading.{Parts, at_token, at_end}
use Rattle.ada_parser.proofs.Depth.{at_depth}

pub is_first : Parts → (fault : SyntaxFault) (ts left : List Lexeme) → whole_at ts ≡ Err (here left) → IsFaultAt fault ts left → IsFirstFault ts fault
is_first parts (UnexpectedToken spot) ts [] e h = absurd h
is_first parts (UnexpectedToken spot) ts (t ∷ after) e h = at_token parts ts t after spot e h
is_first parts (EndOfSource spot) ts [] e h = at_end parts ts spot e h
is_first parts (EndOfSource spot) ts (t ∷ after) e h = absurd h
is_first parts (TooDeep spot) ts left e h = absurd h
is_first parts NoMemory ts left e h = tt

-- ---- what reading tells

is_so : Parts → (fault : SyntaxFault) (ts : List Lexeme) (spot : Spot) → whole_at ts ≡ Err (too_deep spot) → fault ≡ TooDeep spot → IsFirstFault ts fault
is_so parts fault ts spot e h = subst (IsFirstFault ts) (sym h) (at_depth parts ts spot e)

is_stop : Parts → (fault : SyntaxFault) (ts : List Lexeme) (s : Stopped) → whole_at ts ≡ Err s → IsFaultOf fault ts s → IsFirstFault ts fault
is_stop parts NoMemory ts s e h = tt
is_stop parts (UnexpectedToken spot) ts (here left) e h = is_first parts (UnexpectedToken spot) ts left e h
is_stop parts (UnexpectedToken spot) ts (too_deep other) e h = is_so parts (UnexpectedToken spot) ts other e h
is_stop parts (TooDeep spot) ts (here left) e h = is_first parts (TooDeep spot) ts left e h
is_stop parts (TooDeep spot) ts (too_deep other) e h = is_so parts (TooDeep spot) ts other e h
is_stop parts (EndOfSource spot) ts (here left) e h = is_first parts (EndOfSource spot) ts left e h
is_stop parts (EndOfSource spot) ts (too_deep other) e h = is_so parts (EndOfSource spot) ts other e h

pub is_told : Parts → (fault : SyntaxFault) (ts : List Lexeme) (read : Outcome UnitTree) → whole_at ts ≡ read → TellsStop fault ts read → IsFirstFault ts fault
is_told parts NoMemory ts read e h = tt
is_told parts (UnexpectedToken spot) ts (Ok x) e h = absurd h
is_told parts (UnexpectedToken spot) ts (Err s) e h = is_stop parts (UnexpectedToken spot) ts s e h
is_told parts (TooDeep spot) ts (Ok x) e h = absurd h
is_told parts (TooDeep spot) ts (Err s) e h = is_stop parts (TooDeep spot) ts s e h
is_told parts (EndOfSource spot) ts (Ok x) e h = absurd h
is_told parts (EndOfSource spot) ts (Err s) e h = is_stop parts (EndOfSource spot) ts s e h
