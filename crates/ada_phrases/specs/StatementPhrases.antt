-- The parts of statements, as the code builds them.

use Rattle.std.specs.Prelude.{◌≡◌, map, Option, Result, Ok, Err}
use Rattle.ada_text.specs.declared.spot.Spot.{Spot}
use Rattle.std.specs.Global.{Box, Vec}
use Rattle.ada_tree.specs.declared.expressions.Expression.{Expression}
use Rattle.ada_tree.specs.declared.declarations.Declaration.{Declaration}
use Rattle.ada_tree.specs.declared.declarations.ProcedureHead.{ProcedureHead}
use Rattle.ada_tree.specs.declared.names.Identifier.{Identifier}
use Rattle.ada_tree.specs.declared.statements.Branch.{Branch}
use Rattle.ada_tree.specs.declared.statements.Handler.{Handler}
use Rattle.ada_tree.specs.declared.statements.Scheme.{Scheme}
use Rattle.ada_tree.specs.declared.statements.Sequence.{Sequence}
use Rattle.ada_tree.specs.declared.statements.Statement.{Statement}
use Rattle.ada_tree.specs.Names.{optional_ident_of}
use Rattle.ada_tree.specs.Declarations.{head_of}
use Rattle.ada_tree.specs.Expressions.{ExpressionTree}
use Rattle.ada_tree.specs.ExpressionView.{expression_of}
use Rattle.ada_tree.specs.Statements.{BranchTree, DeclarationTree, SchemeTree, SequenceTree, StatementTree, a_sequence, block, body_declaration, branches_from, declare_block, handlers_from, if_statement, loop_statement}
use Rattle.ada_tree.specs.StatementView.{branch_of, condition_of, declaration_of, declarations_of, handler_of, scheme_of, sequence_of, statement_of, statements_of}
use Rattle.ada_reader.specs.declared.reader.Stop.{Stop}
use Rattle.ada_reader.specs.declared.reader.Stop.TheVariants.{NoMemory}
use Rattle.ada_phrases.specs.Boxes.{contents}

-- A condition in a box, or none.
abbrev pub condition_in : Option (Box Expression) → Option ExpressionTree
condition_in found = condition_of (contents found)

-- The code builds a loop scheme with this tree, out of memory aside.
abbrev pub BuildsScheme : SchemeTree → Result (Box Scheme) Stop → Type 0
BuildsScheme tree (Ok scheme) = scheme_of scheme.value ≡ tree
BuildsScheme tree (Err stop) = stop ≡ NoMemory

-- The code builds a statement with this tree, out of memory aside.
abbrev pub BuildsStatement : StatementTree → Result (Box Statement) Stop → Type 0
BuildsStatement tree (Ok statement) = statement_of statement.value ≡ tree
BuildsStatement tree (Err stop) = stop ≡ NoMemory

-- The code builds a declaration with this tree, out of memory aside.
abbrev pub BuildsDeclaration : DeclarationTree → Result (Box Declaration) Stop → Type 0
BuildsDeclaration tree (Ok declaration) = declaration_of declaration.value ≡ tree
BuildsDeclaration tree (Err stop) = stop ≡ NoMemory

-- The code builds a sequence of statements with this tree, out of memory aside.
abbrev pub BuildsSequence : SequenceTree → Result (Box Sequence) Stop → Type 0
BuildsSequence tree (Ok sequence) = sequence_of sequence.value ≡ tree
BuildsSequence tree (Err stop) = stop ≡ NoMemory

-- The code builds a condition and its statements with this tree, out of memory aside.
abbrev pub BuildsBranch : BranchTree → Result (Box Branch) Stop → Type 0
BuildsBranch tree (Ok branch) = branch_of branch.value ≡ tree
BuildsBranch tree (Err stop) = stop ≡ NoMemory

-- `if X then .. end if;`
abbrev pub if_tree : Spot → Vec Branch → Vec Statement → Spot → StatementTree
if_tree spot branches otherwise last =
    if_statement spot (branches_from (map branch_of branches.items)) (statements_of otherwise.items) last

-- `while X loop .. end loop;`
abbrev pub loop_tree : Spot → Box Scheme → Vec Statement → Spot → StatementTree
loop_tree spot scheme statements last = loop_statement spot (scheme_of scheme.value) (statements_of statements.items) last

-- `begin .. end;`
abbrev pub block_tree : Box Sequence → StatementTree
block_tree body = block (sequence_of body.value)

-- `declare .. begin .. end;`
abbrev pub declare_block_tree : Spot → Vec Declaration → Box Sequence → StatementTree
declare_block_tree spot declarations body = declare_block spot (declarations_of declarations.items) (sequence_of body.value)

-- `X then ..`
abbrev pub branch_tree : Box Expression → Vec Statement → BranchTree
branch_tree condition statements =
    record { condition = expression_of condition.value; statements = statements_of statements.items }

-- `begin .. exception .. end`
abbrev pub sequence_tree : Spot → Vec Statement → Vec Handler → Spot → SequenceTree
sequence_tree start statements handlers last =
    a_sequence start (statements_of statements.items) (handlers_from (map handler_of handlers.items)) last

-- The body of a procedure.
abbrev pub body_tree : ProcedureHead → Vec Declaration → Box Sequence → Option Identifier → DeclarationTree
body_tree head declarations body end_name =
    body_declaration (head_of head) (declarations_of declarations.items) (sequence_of body.value) (optional_ident_of end_name)
