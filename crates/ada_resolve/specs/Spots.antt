-- Where a construct begins: the spot of its first token.

use Rattle.std.specs.Prelude.{Option, Some, None}
use Rattle.ada_text.specs.declared.spot.Spot.{Spot}
use Rattle.ada_tree.specs.Declarations.{HeadTree}
use Rattle.ada_tree.specs.Expressions.{ExpressionTree, number_expression, null_expression, path_expression, aggregate_expression, enclosed_expression, unary_expression, binary_expression, RightTree, expression_right, allocator_right, creation_right, ArgumentTree, expression_argument, text_argument, attribute_argument}
use Rattle.ada_tree.specs.Statements.{DeclarationTree, exception_declaration, constant_declaration, pool_declaration, object_declaration, borrower_declaration, incomplete_type, access_type, record_type, derived_type, attribute_clause, specification, body_declaration, instance, begin_of, StatementTree, null_statement, assignment, call, if_statement, loop_statement, exit_statement, return_statement, raise_statement, block, declare_block, SequenceTree, a_sequence}

-- Where an expression begins: with an operator between operands, where the left one does (4.4).
unfoldable pub expression_spot : ExpressionTree → Spot
expression_spot (number_expression spot n) = spot
expression_spot (null_expression spot) = spot
expression_spot (path_expression path) = path.root.spot
expression_spot (aggregate_expression type_name items) = type_name.spot
expression_spot (enclosed_expression spot inner) = spot
expression_spot (unary_expression operator spot operand) = spot
expression_spot (binary_expression operator left right) = expression_spot left

-- Where what is assigned begins (4.8, 5.2).
abbrev pub right_spot : RightTree → Spot
right_spot (expression_right e) = expression_spot e
right_spot (allocator_right spot handle type_name items) = spot
right_spot (creation_right function argument) = function.root.spot

-- Where an argument begins (6.4).
abbrev pub argument_spot : ArgumentTree → Spot
argument_spot (expression_argument e) = expression_spot e
argument_spot (text_argument spot text) = spot
argument_spot (attribute_argument prefix attribute value) = prefix.spot

-- Where a procedure begins: at `overriding`, where that is written (8.3.1).
abbrev pub first_or : Option Spot → Spot → Spot
first_or (Some overriding) procedure = overriding
first_or None procedure = procedure

-- Where a specification or a body of a procedure begins (6.1, 6.3).
abbrev pub head_spot : HeadTree → Spot
head_spot head = first_or head.overriding head.spot

-- Where a declaration begins (3.1).
unfoldable pub declaration_spot : DeclarationTree → Spot
declaration_spot (exception_declaration name) = name.spot
declaration_spot (constant_declaration name value) = name.spot
declaration_spot (pool_declaration name type_name label size) = name.spot
declaration_spot (object_declaration name type_name initial) = name.spot
declaration_spot (borrower_declaration name designated initial) = name.spot
declaration_spot (incomplete_type spot name) = spot
declaration_spot (access_type spot name designated aspect) = spot
declaration_spot (record_type spot name definition) = spot
declaration_spot (derived_type spot name parent definition) = spot
declaration_spot (attribute_clause spot name attribute value) = spot
declaration_spot (specification head) = first_or head.overriding head.spot
declaration_spot (body_declaration head ds body end_name) = first_or head.overriding head.spot
declaration_spot (instance spot name generic designated access) = spot

-- Where a statement begins (5.1).
unfoldable pub statement_spot : StatementTree → Spot
statement_spot (null_statement spot) = spot
statement_spot (assignment target value) = target.root.spot
statement_spot (call procedure arguments) = procedure.root.spot
statement_spot (if_statement spot bs otherwise last) = spot
statement_spot (loop_statement spot scheme ss last) = spot
statement_spot (exit_statement spot condition) = spot
statement_spot (return_statement spot) = spot
statement_spot (raise_statement spot name) = spot
statement_spot (block body) = begin_of body
statement_spot (declare_block spot ds body) = spot

-- Where the last `end` of a sequence of statements stands (11.2).
abbrev pub end_of : SequenceTree → Spot
end_of (a_sequence _ _ _ last) = last
