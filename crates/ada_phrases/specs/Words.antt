-- What the code holds and reads, a word for each: the trees in its boxes and lists, and the phrases behind what it has read.

use Rattle.std.specs.Prelude.{ℕ, ◌-◌, List, Option, map}
use Rattle.std.specs.Global.{Box, Vec}
use denote.MutBor.{MutBor}
use denote.Triple.Both.{Both}
use Rattle.ada_text.specs.declared.spot.Spot.{Spot}
use Rattle.ada_text.specs.declared.word.Word.{Word}
use Rattle.ada_text.specs.declared.word.Word.TheVariants.{Elsif, End, When}
use Rattle.ada_text.specs.declared.delimiter.Delimiter.TheVariants.{Bar, Comma, Dot, Semicolon}
use Rattle.ada_text.specs.Token.{delimiter, lexemes_of, reserved}
use Rattle.ada_values.specs.declared.operator.BinaryOperator.{BinaryOperator}
use Rattle.ada_tree.specs.declared.declarations.Declaration.{Declaration}
use Rattle.ada_tree.specs.declared.declarations.ProcedureHead.{ProcedureHead}
use Rattle.ada_tree.specs.declared.declarations.Size.{Size}
use Rattle.ada_tree.specs.declared.expressions.Argument.{Argument}
use Rattle.ada_tree.specs.declared.expressions.Expression.{Expression}
use Rattle.ada_tree.specs.declared.expressions.Item.{Item}
use Rattle.ada_tree.specs.declared.expressions.Right.{Right}
use Rattle.ada_tree.specs.declared.names.Identifier.{Identifier}
use Rattle.ada_tree.specs.declared.names.Name.{Name}
use Rattle.ada_tree.specs.declared.names.Path.{Path}
use Rattle.ada_tree.specs.declared.statements.Branch.{Branch}
use Rattle.ada_tree.specs.declared.statements.Handler.{Handler}
use Rattle.ada_tree.specs.declared.statements.Scheme.{Scheme}
use Rattle.ada_tree.specs.declared.statements.Sequence.{Sequence}
use Rattle.ada_tree.specs.declared.statements.Statement.{Statement}
use Rattle.ada_tree.specs.declared.unit.Unit.{Unit as UnitOf}
use Rattle.ada_tree.specs.Names.{Ident, NameTree, ident_of, is_name, name_of, optional_ident_of, path_of}
use Rattle.ada_tree.specs.Expressions.{ArgumentTree, ExpressionTree, ItemsTree, RightTree, attribute_argument, binary_expression}
use Rattle.ada_tree.specs.ExpressionView.{argument_of, expression_of, item_of, items_of, right_of}
use Rattle.ada_tree.specs.Records.{ComponentTree}
use Rattle.ada_tree.specs.Declarations.{ChoiceTree, ClauseTree, FormalTree, SizeTree, head_of, size_of}
use Rattle.ada_tree.specs.Statements.{BranchTree, DeclarationTree, HandlerTree, SchemeTree, SequenceTree, StatementTree, UnitTree, for_scheme}
use Rattle.ada_tree.specs.StatementView.{branch_of, declaration_of, handler_of, scheme_of, sequence_of, statement_of, unit_of}
use Rattle.ada_reader.specs.declared.reader.Reader.{Reader}
use Rattle.ada_reader.specs.declared.reader.Stop.{Stop}
use Rattle.ada_reader.specs.Step.{Phrase, Stops, after, all_of, at, both, chain, fixed, not_at}
use Rattle.ada_reader.specs.Operators.{again_at, first_word}
use Rattle.ada_phrases.specs.declared.heads.Start.{Start}
use Rattle.ada_phrases.specs.StartView.{start_of}
use Rattle.ada_phrases.specs.Expressions.{argument_led, behind_path, behind_tick, beside, logical_from, part_at, relation_from, right_led, sum_from, term_from}
use Rattle.ada_phrases.specs.Phrases.{attribute_at, behind_primary_at, expression_led_at, factor_at, more_items_at, primary_led_at, relation_at, repeated_at, sum_at, term_at}
use Rattle.ada_phrases.specs.Records.{component_at}
use Rattle.ada_phrases.specs.Declarations.{access_at, borrower_at, constant_at, definition_at, derived_at, end_at, exception_at, formals_at, instance_at, instance_named_at, next_choice_at, next_formal_at, next_name_at, object_named_at, object_typed_at, record_type_at, size_led, type_named_at}
use Rattle.ada_phrases.specs.Statements.{behind_formals_in, behind_is_in, behind_name_in, block_in, body_in, branch_in, branches_in, declare_block_in, goes_on, handler_in, handlers_in, if_in, loop_in, next_argument_at, next_branch_in, otherwise_in, path_statement_at, procedure_in, sequence_in, statement_at, statements_at, with_formals_in, without_room}
use Rattle.ada_phrases.specs.Nesting.{inside_at}

-- Trees in boxes and lists.

-- An expression.
abbrev pub boxed_expression : Box Expression → ExpressionTree
boxed_expression b = expression_of b.value

-- An item of an aggregate.
abbrev pub boxed_item : Box Item → Option Ident × ExpressionTree
boxed_item b = item_of b.value

-- The items of an aggregate.
abbrev pub listed_items : Vec Item → ItemsTree
listed_items v = items_of v.items

-- A right side.
abbrev pub boxed_right : Box Right → RightTree
boxed_right b = right_of b.value

-- An argument.
abbrev pub boxed_argument : Box Argument → ArgumentTree
boxed_argument b = argument_of b.value

-- Where a loop's first word stands, and how often it runs.
abbrev pub boxed_scheme : Spot × Box Scheme → Spot × SchemeTree
boxed_scheme x = (x.0, scheme_of x.1.value)

-- A statement.
abbrev pub boxed_statement : Box Statement → StatementTree
boxed_statement b = statement_of b.value

-- A condition and its statements.
abbrev pub boxed_branch : Box Branch → BranchTree
boxed_branch b = branch_of b.value

-- A sequence of statements with its handlers.
abbrev pub boxed_sequence : Box Sequence → SequenceTree
boxed_sequence b = sequence_of b.value

-- A handler.
abbrev pub boxed_handler : Box Handler → HandlerTree
boxed_handler b = handler_of b.value

-- A declaration.
abbrev pub boxed_declaration : Box Declaration → DeclarationTree
boxed_declaration b = declaration_of b.value

-- A unit.
abbrev pub boxed_unit : Box UnitOf → UnitTree
boxed_unit b = unit_of b.value

-- Where a word stands, and nothing more.
abbrev pub and_nothing : Spot → Spot × Unit {0}
and_nothing spot = (spot, tt)

-- A size, perhaps with its label.
abbrev pub labelled_size_of : Option Identifier × Size → Option Ident × SizeTree
labelled_size_of x = (optional_ident_of x.0, size_of x.1)

-- Trees that are built of others.

-- An operator beside its operands.
abbrev pub joined_tree : Box Expression → BinaryOperator → Box Expression → ExpressionTree
joined_tree left operator right = binary_expression operator (expression_of left.value) (expression_of right.value)

-- `T'Image (X)`
abbrev pub attribute_tree : Identifier → Identifier → Box Expression → ArgumentTree
attribute_tree prefix attribute value = attribute_argument (ident_of prefix) (ident_of attribute) (expression_of value.value)

-- `for I in X .. Y`
abbrev pub for_tree : Identifier → Box Expression → Box Expression → SchemeTree
for_tree name first last = for_scheme (ident_of name) (expression_of first.value) (expression_of last.value)

-- The code refuses formals, for which no level of nesting is left, where the phrase does.
abbrev pub RefusesFormals : Spot → Spot → Both (MutBor Reader) (MutBor Reader) → Stop → Type 0
RefusesFormals first parenthesis reader stop =
    Stops stop reader.exit.now.tokens.now (without_room first parenthesis (formals_at (lexemes_of reader.entry.now.tokens.now)))

-- Names.

-- `.B.C`
abbrev pub parts_at : Phrase (List Ident)
parts_at = all_of (at (delimiter Dot)) part_at

-- `, A.B, C`
abbrev pub next_names_at : Phrase (List NameTree)
next_names_at = all_of (at (delimiter Comma)) next_name_at

-- `| A.B | others`
abbrev pub next_choices_at : Phrase (List ChoiceTree)
next_choices_at = all_of (at (delimiter Bar)) next_choice_at

-- `; X : T; Y : T`
abbrev pub next_formals_at : Phrase (List FormalTree)
next_formals_at = all_of (at (delimiter Semicolon)) next_formal_at

-- `, X, Y`
abbrev pub next_arguments_at : ℕ → Phrase (List ArgumentTree)
next_arguments_at room = all_of (at (delimiter Comma)) (next_argument_at room)

-- The components of a record type up to `end`.
abbrev pub more_components_at : Phrase (List ComponentTree)
more_components_at = all_of (not_at (reserved End)) component_at

-- `end if;` or `end loop;`
abbrev pub end_word_at : Word → Phrase (Spot × Unit {0})
end_word_at word = both (fixed (reserved End)) (after (reserved word) end_at)

-- Behind the first part of an expression.

-- A logical operator, repeated (4.4).
abbrev pub logical_behind : ℕ → Box Expression → Phrase ExpressionTree
logical_behind room left = logical_from (relation_at room) (expression_of left.value)

-- A relation, and then more with the operator before them.
abbrev pub repeated_behind : ℕ → BinaryOperator → Box Expression → Phrase ExpressionTree
repeated_behind room operator left = repeated_at (relation_at room) operator (expression_of left.value)

-- More relations, with the operator before each.
abbrev pub again_behind : ℕ → BinaryOperator → Box Expression → Phrase ExpressionTree
again_behind room operator first =
    chain (at (first_word operator)) (again_at operator) (relation_at room) beside (expression_of first.value)

-- A comparison (4.4).
abbrev pub relation_behind : ℕ → Box Expression → Phrase ExpressionTree
relation_behind room left = relation_from (sum_at room) (expression_of left.value)

-- More terms of a sum (4.4).
abbrev pub sum_behind : ℕ → Box Expression → Phrase ExpressionTree
sum_behind room first = sum_from (term_at room) (expression_of first.value)

-- More factors of a term (4.4).
abbrev pub term_behind : ℕ → Box Expression → Phrase ExpressionTree
term_behind room first = term_from (factor_at room) (expression_of first.value)

-- The rest of an expression behind its first primary.
abbrev pub rest_behind : ℕ → Box Expression → Phrase ExpressionTree
rest_behind room first = behind_primary_at room (expression_of first.value)

-- The items behind those of a list.
abbrev pub items_behind : ℕ → Vec Item → Phrase ItemsTree
items_behind room items = more_items_at room (map item_of items.items)

-- What stands behind a path on the right of `:=`.
abbrev pub right_behind : ℕ → Path → Phrase RightTree
right_behind room path = behind_path room (path_of path) (is_name (path_of path).selectors)

-- Behind what was read before; `room` levels of nesting may be open inside.

-- A primary that begins with it.
abbrev pub primary_led_by : ℕ → Identifier → Phrase ExpressionTree
primary_led_by room first = primary_led_at room (ident_of first)

-- An expression that begins with it.
abbrev pub expression_led_by : ℕ → Identifier → Phrase ExpressionTree
expression_led_by room first = expression_led_at room (ident_of first)

-- A right side that begins with it.
abbrev pub right_led_by : ℕ → Identifier → Phrase RightTree
right_led_by room first = right_led room (ident_of first)

-- An argument that begins with it.
abbrev pub argument_led_by : ℕ → Identifier → Phrase ArgumentTree
argument_led_by room first = argument_led room (ident_of first)

-- An argument that begins with it and a tick.
abbrev pub tick_led_by : ℕ → Identifier → Phrase ArgumentTree
tick_led_by room first = behind_tick room (ident_of first)

-- An attribute of it.
abbrev pub attribute_of : ℕ → Identifier → Phrase ArgumentTree
attribute_of room prefix = attribute_at room (ident_of prefix)

-- A size, where it may be a label.
abbrev pub size_led_by : Identifier → Phrase (Option Ident × SizeTree)
size_led_by first = size_led (ident_of first)

-- The statement that begins with a path.
abbrev pub statement_led_by : ℕ → Path → Phrase StatementTree
statement_led_by room path = path_statement_at room (path_of path)

-- An object of that name.
abbrev pub object_named : ℕ → Identifier → Phrase DeclarationTree
object_named room name = object_named_at room (ident_of name)

-- An object of that name and type.
abbrev pub object_typed : ℕ → Identifier → Name → Phrase DeclarationTree
object_typed room name type_name = object_typed_at room (ident_of name) (name_of type_name)

-- A type of that name.
abbrev pub type_named : Spot → Identifier → Phrase DeclarationTree
type_named spot name = type_named_at spot (ident_of name)

-- What a type of that name is.
abbrev pub definition_of : Spot → Identifier → Phrase DeclarationTree
definition_of spot name = definition_at spot (ident_of name)

-- An exception of that name.
abbrev pub exception_named : Identifier → Phrase DeclarationTree
exception_named name = exception_at (ident_of name)

-- A constant of that name.
abbrev pub constant_named : Identifier → Phrase DeclarationTree
constant_named name = constant_at (ident_of name)

-- An object of that name and of an anonymous access type.
abbrev pub borrower_named : ℕ → Identifier → Phrase DeclarationTree
borrower_named room name = borrower_at room (ident_of name)

-- An access type of that name.
abbrev pub access_named : Spot → Identifier → Phrase DeclarationTree
access_named spot name = access_at spot (ident_of name)

-- A derived type of that name.
abbrev pub derived_named : Spot → Identifier → Phrase DeclarationTree
derived_named spot name = derived_at spot (ident_of name)

-- A record type of that name.
abbrev pub record_named : Spot → Identifier → Phrase DeclarationTree
record_named spot name = record_type_at spot (ident_of name)

-- Procedures.

-- An instance behind `procedure Free is`.
abbrev pub instance_behind : ℕ → Start → Phrase DeclarationTree
instance_behind room start = instance_at room (start_of start)

-- An instance of that generic unit.
abbrev pub instance_named : ℕ → Start → Name → Phrase DeclarationTree
instance_named room start generic = instance_named_at room (start_of start) (name_of generic)

-- A procedure.
abbrev pub procedure_at : ℕ → Phrase DeclarationTree
procedure_at room = procedure_in room (inside_at (room - 1))

-- What stands behind the name of a procedure.
abbrev pub name_behind : ℕ → Start → Phrase DeclarationTree
name_behind room start = behind_name_in room (inside_at (room - 1)) (start_of start)

-- What stands behind the parenthesis of formals.
abbrev pub formals_behind : ℕ → Start → Spot → Phrase DeclarationTree
formals_behind room start parenthesis = with_formals_in room (inside_at (room - 1)) (start_of start) parenthesis

-- What stands behind formals.
abbrev pub head_behind : ℕ → ProcedureHead → Spot → Phrase DeclarationTree
head_behind room head parenthesis = behind_formals_in room (inside_at room) (head_of head) parenthesis

-- What stands behind the `is` of a procedure without formals.
abbrev pub is_behind : ℕ → Start → Phrase DeclarationTree
is_behind room start = behind_is_in room (inside_at (room - 1)) (start_of start)

-- What stands behind the `is` of a body.
abbrev pub body_behind : ℕ → ProcedureHead → Phrase DeclarationTree
body_behind room head = body_in (inside_at room) (head_of head)

-- Statements; `room` levels of nesting may be open inside.

-- An `if`.
abbrev pub if_at : ℕ → Phrase StatementTree
if_at room = if_in room (statements_at (room - 1))

-- What stands behind `if`, up to `else` or `end`.
abbrev pub branches_at : ℕ → Phrase (List BranchTree)
branches_at room = branches_in room (statements_at (room - 1))

-- `X then ..`
abbrev pub branch_at : ℕ → Phrase BranchTree
branch_at room = branch_in room (statements_at (room - 1))

-- `elsif X then ..`
abbrev pub next_branch_at : ℕ → Phrase BranchTree
next_branch_at room = next_branch_in room (statements_at (room - 1))

-- `elsif X then ..`, as many as there are.
abbrev pub more_branches_at : ℕ → Phrase (List BranchTree)
more_branches_at room = all_of (at (reserved Elsif)) (next_branch_at room)

-- `else ..`, or nothing.
abbrev pub otherwise_at : ℕ → Phrase (List StatementTree)
otherwise_at room = otherwise_in (statements_at room)

-- A loop.
abbrev pub loop_at : ℕ → Phrase StatementTree
loop_at room = loop_in room (statements_at (room - 1))

-- `begin .. end;`
abbrev pub block_at : ℕ → Phrase StatementTree
block_at room = block_in room (statements_at (room - 1))

-- `declare .. begin .. end;`
abbrev pub declare_block_at : ℕ → Phrase StatementTree
declare_block_at room = declare_block_in room (inside_at (room - 1))

-- The statements up to their end.
abbrev pub more_statements_at : ℕ → Phrase (List StatementTree)
more_statements_at room = all_of goes_on (statement_at room)

-- What stands behind `begin`, up to `end`.
abbrev pub sequence_at : ℕ → Spot → Phrase SequenceTree
sequence_at room start = sequence_in (statements_at room) start

-- `when A | B => ..`
abbrev pub handler_at : ℕ → Phrase HandlerTree
handler_at room = handler_in (statements_at room)

-- The handlers, as many as there are.
abbrev pub more_handlers_at : ℕ → Phrase (List HandlerTree)
more_handlers_at room = all_of (at (reserved When)) (handler_at room)

-- `exception` and its handlers, or nothing.
abbrev pub handlers_at : ℕ → Phrase (List HandlerTree)
handlers_at room = handlers_in (statements_at room)
