-- What the laws of trees and faults say of a list of tokens.

use Rattle.std.specs.Prelude.{◌≡◌, ◌≢◌, List}
use Rattle.ada_text.specs.Token.{Lexeme}
use Rattle.ada_tree.specs.Statements.{IsTextOf, UnitTree}
use Rattle.ada_parser.specs.declared.fault.SyntaxFault.{SyntaxFault}
use Rattle.ada_parser.specs.declared.fault.SyntaxFault.TheVariants.{NoMemory}
use Rattle.ada_parser.specs.FirstFault.{IsFirstFault}

-- The tokens are the text of one tree at most.
abbrev pub HasAtMostOneTree : List Lexeme → Type 0
HasAtMostOneTree tokens = (t u : UnitTree) → IsTextOf tokens t → IsTextOf tokens u → t ≡ u

-- The tokens have one first fault at most.
abbrev pub HasAtMostOneFault : List Lexeme → Type 0
HasAtMostOneFault tokens =
    (f g : SyntaxFault) → IsFirstFault tokens f → IsFirstFault tokens g → f ≢ NoMemory → g ≢ NoMemory → f ≡ g

-- Tokens with a first fault have no tree.
abbrev pub HasFaultOrTree : List Lexeme → Type 0
HasFaultOrTree tokens =
    (fault : SyntaxFault) (tree : UnitTree) → IsFirstFault tokens fault → IsTextOf tokens tree → fault ≡ NoMemory
