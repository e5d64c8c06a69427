-- Where what may be cut begins: the spot of its first token.

use Rattle.std.specs.Prelude.{Option, Some, None}
use Rattle.ada_text.specs.declared.spot.Spot.{Spot}
use Rattle.ada_tree.specs.Expressions.{ExpressionTree, number_expression, null_expression, path_expression, aggregate_expression, enclosed_expression, unary_expression, binary_expression}
use Rattle.ada_tree.specs.Statements.{DeclarationTree, exception_declaration, constant_declaration, pool_declaration, object_declaration, borrower_declaration, incomplete_type, access_type, record_type, derived_type, attribute_clause, specification, body_declaration, instance, begin_of, StatementTree, null_statement, assignment, call, if_statement, loop_statement, exit_statement, return_statement, raise_statement, block, declare_block}

-- An expression begins, with an operator between operands, where the left one does (4.4).
unfoldable pub expression_start : ExpressionTree → Spot
expression_start (number_expression spot n) = spot
expression_start (null_expression spot) = spot
expression_start (path_expression path) = path.root.spot
expression_start (aggregate_expression type_name items) = type_name.spot
expression_start (enclosed_expression spot inner) = spot
expression_start (unary_expression operator spot operand) = spot
expression_start (binary_expression operator left right) = expression_start left

-- A procedure begins at `overriding`, where that is written (8.3.1).
abbrev pub first_or : Option Spot → Spot → Spot
first_or (Some overriding) procedure = overriding
first_or None procedure = procedure

-- Where a declaration begins (3.1).
unfoldable pub declaration_start : DeclarationTree → Spot
declaration_start (exception_declaration name) = name.spot
declaration_start (constant_declaration name value) = name.spot
declaration_start (pool_declaration name type_name label size) = name.spot
declaration_start (object_declaration name type_name initial) = name.spot
declaration_start (borrower_declaration name designated initial) = name.spot
declaration_start (incomplete_type spot name) = spot
declaration_start (access_type spot name designated aspect) = spot
declaration_start (record_type spot name definition) = spot
declaration_start (derived_type spot name parent definition) = spot
declaration_start (attribute_clause spot name attribute value) = spot
declaration_start (specification head) = first_or head.overriding head.spot
declaration_start (body_declaration head ds body end_name) = first_or head.overriding head.spot
declaration_start (instance spot name generic designated access) = spot

-- Where a statement begins (5.1).
unfoldable pub statement_start : StatementTree → Spot
statement_start (null_statement spot) = spot
statement_start (assignment target value) = target.root.spot
statement_start (call procedure arguments) = procedure.root.spot
statement_start (if_statement spot bs otherwise last) = spot
statement_start (loop_statement spot scheme ss last) = spot
statement_start (exit_statement spot condition) = spot
statement_start (return_statement spot) = spot
statement_start (raise_statement spot name) = spot
statement_start (block body) = begin_of body
statement_start (declare_block spot ds body) = spot
