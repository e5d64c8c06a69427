-- Reading declarations and statements.

use Rattle.std.specs.Prelude.{ℕ, zero, suc, ◌-◌, Bool, false, not, ◌||◌, List, [], ◌∷◌, Option, Some, None, Ok, Err, if◌then◌else◌}
use Rattle.ada_text.specs.declared.spot.Spot.{Spot}
use Rattle.ada_text.specs.declared.word.Word.TheVariants as word
use Rattle.ada_text.specs.declared.delimiter.Delimiter.TheVariants.{Arrow, Assign, Comma, DoubleDot, LeftParenthesis, RightParenthesis}
use Rattle.ada_text.specs.Token.{reserved, delimiter, Lexeme}
use Rattle.ada_tree.specs.Names.{Ident, NameTree, PathTree}
use Rattle.ada_tree.specs.Expressions.{ExpressionTree, RightTree, ArgumentTree}
use Rattle.ada_tree.specs.Declarations.{FormalTree, HeadTree, ChoiceTree}
use Rattle.ada_tree.specs.Statements.{SchemeTree, endless, while_scheme, for_scheme, DeclarationTree, specification, body_declaration, StatementTree, null_statement, assignment, call, if_statement, loop_statement, exit_statement, return_statement, raise_statement, block, declare_block, SequenceTree, a_sequence, BranchTree, HandlerTree, declarations_from, statements_from, branches_from, handlers_from}
use Rattle.ada_reader.specs.Step.{Phrase, Outcome, too_deep, fixed, identifier_at, nothing, continued, mapped, both, after, choose, all_of, opened, opening_in, at, not_at}
use Rattle.ada_phrases.specs.Expressions.{refuses, name_at, path_led, expression_at, right_at, argument_at}
use Rattle.ada_phrases.specs.Declarations.{end_at, end_name_at, cons_from, choices_at, object_at, type_at, attribute_clause_at, formals_at, Start, start_at, earlier, head_from, instance_at}

-- What stands inside a level of nesting: declarations, as many as there are, and statements, one or more.
pub record Inner : Type 0 where
  pub declarations : Phrase (List DeclarationTree)
  pub statements : Phrase (List StatementTree)

-- Statements in which no other nests.

-- A path.
unfoldable pub path_at : Phrase PathTree
path_at = continued identifier_at path_led

-- `, X`
unfoldable pub next_argument_at : ℕ → Phrase ArgumentTree
next_argument_at room = after (delimiter Comma) (argument_at room)

-- The first argument and the others.
abbrev pub arguments_from : ArgumentTree × (List ArgumentTree × Unit {0}) → List ArgumentTree
arguments_from x = x.0 ∷ x.1.0

-- `X, Y)`; `room` levels of nesting may be open inside.
unfoldable pub arguments_at : ℕ → Phrase (List ArgumentTree)
arguments_at room =
    mapped arguments_from (both (argument_at room) (both (all_of (at (delimiter Comma)) (next_argument_at room))
    (after (delimiter RightParenthesis) nothing)))

-- An assignment of its parts.
abbrev pub assignment_from : PathTree → RightTree × Unit {0} → StatementTree
assignment_from target x = assignment target x.0

-- A call of its parts.
abbrev pub call_from : PathTree → List ArgumentTree × Unit {0} → StatementTree
call_from procedure x = call procedure x.0

-- What stands behind a path: `:= ..;`, `(..);` or `;`.
unfoldable pub path_statement_at : ℕ → PathTree → Phrase StatementTree
path_statement_at room path =
    choose (at (delimiter Assign)) (mapped (assignment_from path) (after (delimiter Assign) (both (right_at room) end_at)))
    (choose (at (delimiter LeftParenthesis))
    (mapped (call_from path) (both (opened room (delimiter LeftParenthesis) (arguments_at (room - 1))) end_at))
    (mapped (λ _. call path []) end_at))

-- `when X`, or nothing.
unfoldable pub optional_when_at : ℕ → Phrase (Option ExpressionTree)
optional_when_at room =
    choose (at (reserved word.When)) (mapped Some (after (reserved word.When) (expression_at room))) (mapped (λ _. None) nothing)

-- A null statement of its parts.
abbrev pub null_from : Spot × Unit {0} → StatementTree
null_from x = null_statement x.0

-- A return statement of its parts.
abbrev pub return_from : Spot × Unit {0} → StatementTree
return_from x = return_statement x.0

-- An exit statement of its parts.
abbrev pub exit_from : Spot × (Option ExpressionTree × Unit {0}) → StatementTree
exit_from x = exit_statement x.0 x.1.0

-- A raise statement of its parts.
abbrev pub raise_from : Spot × (NameTree × Unit {0}) → StatementTree
raise_from x = raise_statement x.0 x.1.0

-- `null;`, `exit when X;`, `return;`, `raise E;`, an assignment or a call.
unfoldable pub simple_statement_at : ℕ → Phrase StatementTree
simple_statement_at room =
    choose (at (reserved word.Null)) (mapped null_from (both (fixed (reserved word.Null)) end_at))
    (choose (at (reserved word.Exit)) (mapped exit_from (both (fixed (reserved word.Exit)) (both (optional_when_at room) end_at)))
    (choose (at (reserved word.Return)) (mapped return_from (both (fixed (reserved word.Return)) end_at))
    (choose (at (reserved word.Raise)) (mapped raise_from (both (fixed (reserved word.Raise)) (both name_at end_at)))
    (continued path_at (path_statement_at room)))))

-- Loops.

-- An endless loop's first word.
abbrev pub endless_from : Spot → Spot × SchemeTree
endless_from spot = (spot, endless)

-- `while X loop` of its parts.
abbrev pub while_from : Spot × (ExpressionTree × Unit {0}) → Spot × SchemeTree
while_from x = (x.0, while_scheme x.1.0)

-- `for I in X .. Y loop` of its parts.
abbrev pub for_from : Spot × (Ident × (ExpressionTree × (ExpressionTree × Unit {0}))) → Spot × SchemeTree
for_from x = (x.0, for_scheme x.1.0 x.1.1.0 x.1.1.1.0)

-- `while X loop`, and where the first word stands.
abbrev pub while_at : ℕ → Phrase (Spot × SchemeTree)
while_at room =
    mapped while_from (both (opening_in room (reserved word.While)) (both (expression_at (room - 1)) (after (reserved word.Loop) nothing)))

-- `for I in X .. Y loop`, and where the first word stands.
abbrev pub for_at : ℕ → Phrase (Spot × SchemeTree)
for_at room =
    mapped for_from (both (opening_in room (reserved word.For)) (both identifier_at (after (reserved word.«In»)
    (both (expression_at (room - 1)) (after (delimiter DoubleDot) (both (expression_at (room - 1)) (after (reserved word.Loop) nothing)))))))

-- `loop`, `while X loop` or `for I in X .. Y loop`, and where the first word stands.
unfoldable pub scheme_at : ℕ → Phrase (Spot × SchemeTree)
scheme_at room =
    choose (at (reserved word.While)) (while_at room)
    (choose (at (reserved word.For)) (for_at room) (mapped endless_from (opening_in room (reserved word.Loop))))

-- Whether a loop is next.
abbrev pub at_loop : List Lexeme → Bool
at_loop ts = at (reserved word.Loop) ts || at (reserved word.While) ts || at (reserved word.For) ts

-- A loop of its parts.
abbrev pub loop_from : (Spot × SchemeTree) × (List StatementTree × (Spot × Unit {0})) → StatementTree
loop_from x = loop_statement x.0.0 x.0.1 (statements_from x.1.0) x.1.1.0

-- `end loop;`
unfoldable pub end_loop_at : Phrase (Spot × Unit {0})
end_loop_at = both (fixed (reserved word.End)) (after (reserved word.Loop) end_at)

-- A loop, of the statements inside.
unfoldable pub loop_in : ℕ → Phrase (List StatementTree) → Phrase StatementTree
loop_in room statements = mapped loop_from (both (scheme_at room) (both statements end_loop_at))

-- Conditions.

-- A condition and its statements, of their parts.
abbrev pub branch_from : ExpressionTree × List StatementTree → BranchTree
branch_from x = record { condition = x.0; statements = statements_from x.1 }

-- `X then ..`, inside an `if` for which there was room.
unfoldable pub branch_in : ℕ → Phrase (List StatementTree) → Phrase BranchTree
branch_in room statements = mapped branch_from (both (expression_at (room - 1)) (after (reserved word.Then) statements))

-- `elsif X then ..`
unfoldable pub next_branch_in : ℕ → Phrase (List StatementTree) → Phrase BranchTree
next_branch_in room statements = after (reserved word.Elsif) (branch_in room statements)

-- What stands behind `if`, up to `else` or `end`.
unfoldable pub branches_in : ℕ → Phrase (List StatementTree) → Phrase (List BranchTree)
branches_in room statements =
    mapped cons_from (both (branch_in room statements) (all_of (at (reserved word.Elsif)) (next_branch_in room statements)))

-- `else ..`, or nothing.
unfoldable pub otherwise_in : Phrase (List StatementTree) → Phrase (List StatementTree)
otherwise_in statements = choose (at (reserved word.Else)) (after (reserved word.Else) statements) (mapped (λ _. []) nothing)

-- `end if;`
unfoldable pub end_if_at : Phrase (Spot × Unit {0})
end_if_at = both (fixed (reserved word.End)) (after (reserved word.If) end_at)

-- An `if` of its parts.
abbrev pub if_from : Spot × (List BranchTree × (List StatementTree × (Spot × Unit {0}))) → StatementTree
if_from x = if_statement x.0 (branches_from x.1.0) (statements_from x.1.1.0) x.1.1.1.0

-- An `if`, of the statements inside.
unfoldable pub if_in : ℕ → Phrase (List StatementTree) → Phrase StatementTree
if_in room statements =
    mapped if_from (both (opening_in room (reserved word.If)) (both (branches_in room statements)
    (both (otherwise_in statements) end_if_at)))

-- Handlers and blocks.

-- A handler of its parts.
abbrev pub handler_from : Spot × (List ChoiceTree × List StatementTree) → HandlerTree
handler_from x = record { spot = x.0; choices = x.1.0; statements = statements_from x.1.1 }

-- `when A | B => ..`
unfoldable pub handler_in : Phrase (List StatementTree) → Phrase HandlerTree
handler_in statements = mapped handler_from (both (fixed (reserved word.When)) (both choices_at (after (delimiter Arrow) statements)))

-- The handlers behind `exception`, one or more.
unfoldable pub some_handlers_in : Phrase (List StatementTree) → Phrase (List HandlerTree)
some_handlers_in statements = choose (at (reserved word.When)) (all_of (at (reserved word.When)) (handler_in statements)) refuses

-- `exception` and its handlers, or nothing.
unfoldable pub handlers_in : Phrase (List StatementTree) → Phrase (List HandlerTree)
handlers_in statements =
    choose (at (reserved word.Exception)) (after (reserved word.Exception) (some_handlers_in statements)) (mapped (λ _. []) nothing)

-- A sequence of its parts.
abbrev pub sequence_from : Spot → List StatementTree × (List HandlerTree × Spot) → SequenceTree
sequence_from start x = a_sequence start (statements_from x.0) (handlers_from x.1.0) x.1.1

-- What stands behind `begin`, up to `end`.
unfoldable pub sequence_in : Phrase (List StatementTree) → Spot → Phrase SequenceTree
sequence_in statements start = mapped (sequence_from start) (both statements (both (handlers_in statements) (fixed (reserved word.End))))

-- `begin .. end`
unfoldable pub begin_in : Phrase (List StatementTree) → Phrase SequenceTree
begin_in statements = continued (fixed (reserved word.Begin)) (sequence_in statements)

-- A block of its parts.
abbrev pub block_from : SequenceTree × Unit {0} → StatementTree
block_from x = block x.0

-- `begin .. end;`
unfoldable pub block_in : ℕ → Phrase (List StatementTree) → Phrase StatementTree
block_in room statements =
    mapped block_from (both (continued (opening_in room (reserved word.Begin)) (sequence_in statements)) end_at)

-- A block with declarations, of its parts.
abbrev pub declare_block_from : Spot × (List DeclarationTree × (SequenceTree × Unit {0})) → StatementTree
declare_block_from x = declare_block x.0 (declarations_from x.1.0) x.1.1.0

-- `declare .. begin .. end;`
unfoldable pub declare_block_in : ℕ → Inner → Phrase StatementTree
declare_block_in room inner =
    mapped declare_block_from (both (opening_in room (reserved word.Declare)) (both inner.declarations (both (begin_in inner.statements) end_at)))

-- Statements, of what stands inside one level of nesting.

-- A statement (5.1).
unfoldable pub statement_in : ℕ → Inner → Phrase StatementTree
statement_in room inner =
    choose (at (reserved word.If)) (if_in room inner.statements)
    (choose at_loop (loop_in room inner.statements)
    (choose (at (reserved word.Begin)) (block_in room inner.statements)
    (choose (at (reserved word.Declare)) (declare_block_in room inner) (simple_statement_at room))))

-- Whether statements end here.
abbrev pub ends_statements : List Lexeme → Bool
ends_statements ts =
    at (reserved word.End) ts || at (reserved word.Exception) ts || at (reserved word.When) ts || at (reserved word.Elsif) ts ||
    at (reserved word.Else) ts

-- Whether they go on.
abbrev pub goes_on : List Lexeme → Bool
goes_on ts = not (ends_statements ts)

-- Statements, one or more.
unfoldable pub statements_in : ℕ → Inner → Phrase (List StatementTree)
statements_in room inner = choose ends_statements refuses (all_of goes_on (statement_in room inner))

-- Declarations, of what stands inside one level of nesting.

-- Where there is no room for a level, reading stops at the token that would open it.
abbrev pub level : ℕ → Spot → Phrase (Unit {0})
level zero spot ts = Err (too_deep spot)
level (suc room) spot ts = Ok (tt, ts)

-- A body of its parts.
abbrev pub body_from : HeadTree → List DeclarationTree × (SequenceTree × (Option Ident × Unit {0})) → DeclarationTree
body_from head x = body_declaration head (declarations_from x.0) x.1.0 x.1.1.0

-- What stands behind the `is` of a body.
unfoldable pub body_in : Inner → HeadTree → Phrase DeclarationTree
body_in inner head =
    mapped (body_from head) (both inner.declarations (both (begin_in inner.statements) (both end_name_at end_at)))

-- `;` behind a head.
abbrev pub specification_at : HeadTree → Phrase DeclarationTree
specification_at head = mapped (λ _. specification head) end_at

-- What stands behind formals: a body, whose first level of nesting is open at its first word, or `;`.
unfoldable pub behind_formals_in : ℕ → Inner → HeadTree → Spot → Phrase DeclarationTree
behind_formals_in room inner head parenthesis =
    choose (at (reserved word.Is)) (continued (level room parenthesis) (λ _. after (reserved word.Is) (body_in inner head)))
    (specification_at head)

-- Without room for a level more: too deep at the first word of a body, which `is` shows, and else at the parenthesis.
abbrev pub without_room : Spot → Spot → Outcome (List FormalTree) → Outcome DeclarationTree
without_room first parenthesis (Ok x) = if at (reserved word.Is) x.1 then Err (too_deep first) else Err (too_deep parenthesis)
without_room first parenthesis (Err e) = Err (too_deep parenthesis)

-- What stands behind the parenthesis of formals.
abbrev pub with_formals_in : ℕ → Inner → Start → Spot → Phrase DeclarationTree
with_formals_in zero inner s parenthesis ts = without_room (earlier s.overriding s.spot) parenthesis (formals_at ts)
with_formals_in (suc room) inner s parenthesis ts =
    continued formals_at (λ formals. behind_formals_in room inner (head_from s formals) parenthesis) ts

-- Whether an instance follows `is`, which none does behind `overriding`.
abbrev pub at_instance : Option Spot → List Lexeme → Bool
at_instance None ts = at (reserved word.New) ts
at_instance (Some spot) ts = false

-- What stands behind the `is` of a procedure without formals: an instance or a body.
unfoldable pub behind_is_in : ℕ → Inner → Start → Phrase DeclarationTree
behind_is_in room inner s =
    choose (at_instance s.overriding) (instance_at room s)
    (continued (level room (earlier s.overriding s.spot)) (λ _. body_in inner (head_from s [])))

-- What stands behind the name of a procedure.
unfoldable pub behind_name_in : ℕ → Inner → Start → Phrase DeclarationTree
behind_name_in room inner s =
    choose (at (delimiter LeftParenthesis)) (continued (fixed (delimiter LeftParenthesis)) (with_formals_in room inner s))
    (choose (at (reserved word.Is)) (after (reserved word.Is) (behind_is_in room inner s)) (specification_at (head_from s [])))

-- A procedure: its specification, its body or an instance.
unfoldable pub procedure_in : ℕ → Inner → Phrase DeclarationTree
procedure_in room inner = continued start_at (behind_name_in room inner)

-- Whether a procedure is next.
abbrev pub at_procedure : List Lexeme → Bool
at_procedure ts = at (reserved word.Procedure) ts || at (reserved word.Overriding) ts

-- A declaration (3.1).
unfoldable pub declaration_in : ℕ → Inner → Phrase DeclarationTree
declaration_in room inner =
    choose at_procedure (procedure_in room inner)
    (choose (at (reserved word.«Type»)) type_at (choose (at (reserved word.For)) attribute_clause_at (object_at room)))

-- The declarations up to `begin`.
unfoldable pub declarations_in : ℕ → Inner → Phrase (List DeclarationTree)
declarations_in room inner = all_of (not_at (reserved word.Begin)) (declaration_in room inner)

-- What stands inside a level of nesting, of which this many may be open at once; where none may be, nothing stands inside.
unfoldable pub inner_at : ℕ → Inner
inner_at zero = record { declarations = refuses; statements = refuses }
inner_at (suc room) = record { declarations = declarations_in room (inner_at room); statements = statements_in room (inner_at room) }

-- A statement; `room` levels of nesting may be open inside.
unfoldable pub statement_at : ℕ → Phrase StatementTree
statement_at room = statement_in room (inner_at room)

-- Statements, one or more.
unfoldable pub statements_at : ℕ → Phrase (List StatementTree)
statements_at room = statements_in room (inner_at room)

-- A declaration.
unfoldable pub declaration_at : ℕ → Phrase DeclarationTree
declaration_at room = declaration_in room (inner_at room)

-- The declarations up to `begin`.
unfoldable pub declarations_at : ℕ → Phrase (List DeclarationTree)
declarations_at room = declarations_in room (inner_at room)
