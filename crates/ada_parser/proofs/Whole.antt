-- What the phrases give, together: what `parse` answers, and the laws of it.
use Rattle.std.proofs.Common.{◌≡◌, ◌≢◌, List, [], Result, Ok, Err, IfOk, IfErr, refl}
use Rattle.ada_text.specs.Token.{Lexeme}
use Rattle.ada_phrases.specs.declared.unit.Parsed.{Parsed}
use Rattle.ada_tree.specs.Statements.{UnitTree, IsTextOf, deepest}
use Rattle.ada_tree.specs.StatementView.{unit_of}
use Rattle.ada_parser.specs.declared.fault.SyntaxFault.{SyntaxFault}
use Rattle.ada_parser.specs.declared.fault.SyntaxFault.TheVariants.{NoMemory}
use Rattle.ada_parser.specs.Faults.{TellsStop}
use Rattle.ada_parser.specs.FirstFault.{IsFirstFault}
use Rattle.ada_phrases.specs.Units.{whole_at}
use Rattle.ada_parser.proofs.ExpressionLooks.{looks}
use Rattle.ada_parser.proofs.UnitPhrases.{unit_sound, whole_plain}
use Rattle.ada_parser.proofs.UnitTexts.{whole_complete}
use Rattle.ada_parser.proofs.Reading.{Parts, whole_takes, one_tree}
use Rattle.ada_parser.proofs.OneFault.{fault_without_tree, one_fault}
use Rattle.ada_parser.proofs.Exact.{is_told}

parts : Parts
parts = record { sound = unit_sound deepest; plain = whole_plain; complete = whole_complete looks }

pub is_found : (ts : List Lexeme) (read : Result Parsed SyntaxFault) → IfOk read (λ parsed. whole_at ts ≡ Ok (unit_of parsed.unit, [])) → IfOk read (λ parsed. IsTextOf ts (unit_of parsed.unit))
is_found ts (Ok parsed) h = whole_takes parts ts (unit_of parsed.unit) [] h
is_found ts (Err fault) h = tt

pub is_refused : (ts : List Lexeme) (read : Result Parsed SyntaxFault) → IfErr read (λ fault. TellsStop fault ts (whole_at ts)) → IfErr read (λ fault. IsFirstFault ts fault)
is_refused ts (Ok unit) h = tt
is_refused ts (Err fault) h = is_told parts fault ts (whole_at ts) refl h

pub has_one_tree : (ts : List Lexeme) (t u : UnitTree) → IsTextOf ts t → IsTextOf ts u → t ≡ u
has_one_tree = one_tree parts

pub has_fault_or_tree : (ts : List Lexeme) (fault : SyntaxFault) (tree : UnitTree) → IsFirstFault ts fault → IsTextOf ts tree → fault ≡ NoMemory
has_fault_or_tree = fault_without_tree

pub has_one_fault : (ts : List Lexeme) (f g : SyntaxFault) → IsFirstFault ts f → IsFirstFault ts g → f ≢ NoMemory → g ≢ NoMemory → f ≡ g
has_one_fault = one_fault
