-- Statements: what is wrong with each, and what it does.

use Rattle.std.specs.Prelude.{ℕ, Bool, not, List, [], ◌∷◌, ◌++◌, length, Option, Some, None}
use Rattle.ada_text.specs.declared.spot.Spot.{Spot}
use Rattle.ada_tree.specs.Expressions.{ExpressionTree, ArgumentTree, expression_argument, text_argument, attribute_argument}
use Rattle.ada_tree.specs.Statements.{StatementTree, null_statement, assignment, call, exit_statement, return_statement, raise_statement}
use Rattle.ada_program.specs.Form.{ExpressionForm, StmtForm, skips, exits, returns}
use Rattle.ada_resolve.specs.declared.fault.NameRule.TheVariants.{NotInProfile}
use Rattle.ada_resolve.specs.Assignments.{assignment_found, assignment_remark}
use Rattle.ada_resolve.specs.Known.{Known}
use Rattle.ada_resolve.specs.Remark.{Remark, fine, wrong, node, ◌also◌, wrong_if}
use Rattle.ada_resolve.specs.Spots.{expression_spot, statement_spot}
use Rattle.ada_resolve.specs.Expressions.{expression_meant, expression_remark}
use Rattle.ada_resolve.specs.Operators.{boolean_in, boolean_wanted, integer_in, integer_wanted}
use Rattle.ada_resolve.specs.Calls.{call_found, call_remark}
use Rattle.ada_resolve.specs.Exceptions.{raise_found, raise_remark}

-- What is wrong with a condition (5.3): it is a Boolean.
abbrev pub condition_remark : Known → ExpressionTree → Remark
condition_remark known e = expression_remark known e also boolean_wanted (expression_meant known e) (expression_spot e)

-- What a condition means; False where something is wrong.
abbrev pub condition_meant : Known → ExpressionTree → ExpressionForm
condition_meant known e = boolean_in (expression_meant known e)

-- What is wrong with a bound of a range (5.5): it is an Integer.
abbrev pub bound_remark : Known → ExpressionTree → Remark
bound_remark known e = expression_remark known e also integer_wanted (expression_meant known e) (expression_spot e)

-- What a bound means; 0 where something is wrong.
abbrev pub bound_meant : Known → ExpressionTree → ExpressionForm
bound_meant known e = integer_in (expression_meant known e)

-- What is wrong with a condition that may be left out (5.7).
abbrev pub optional_condition_remark : Known → Option ExpressionTree → Remark
optional_condition_remark known None = fine
optional_condition_remark known (Some e) = condition_remark known e

-- What a condition means that may be left out.
abbrev pub optional_condition_meant : Known → Option ExpressionTree → Option ExpressionForm
optional_condition_meant known None = None
optional_condition_meant known (Some e) = Some (condition_meant known e)

-- What is wrong with an exit (5.7): a node of the source, inside a loop, with a Boolean where a condition is written.
abbrev pub exit_remark : Known → (inside_loop : Bool) → Spot → Option ExpressionTree → Remark
exit_remark known inside_loop spot condition =
    node spot also wrong_if (not inside_loop) spot NotInProfile also optional_condition_remark known condition

-- What is wrong with a statement that has no others in it (5.1): no other is in the profile yet.
abbrev pub statement_remark : Known → (inside_loop : Bool) → StatementTree → Remark
statement_remark known inside_loop (null_statement spot) = node spot
statement_remark known inside_loop (assignment target value) = assignment_remark known target value
statement_remark known inside_loop (call procedure arguments) = call_remark known procedure arguments
statement_remark known inside_loop (exit_statement spot condition) = exit_remark known inside_loop spot condition
statement_remark known inside_loop (return_statement spot) = node spot
statement_remark known inside_loop (raise_statement spot name) = raise_remark known spot name
statement_remark known inside_loop other = wrong (statement_spot other) NotInProfile

-- What an exit does.
abbrev pub exit_found : Known → Spot → Option ExpressionTree → Option StmtForm
exit_found known spot condition = Some (exits (optional_condition_meant known condition) spot)

-- What such a statement does; none where something is wrong.
abbrev pub statement_found : Known → StatementTree → Option StmtForm
statement_found known (null_statement spot) = Some skips
statement_found known (assignment target value) = assignment_found known target value
statement_found known (call procedure arguments) = call_found known (length known.texts) procedure arguments
statement_found known (exit_statement spot condition) = exit_found known spot condition
statement_found known (return_statement spot) = Some (returns spot)
statement_found known (raise_statement spot name) = raise_found known name
statement_found known other = None

-- The text that the first argument of a call is, if it is one.
abbrev pub text_in : List ArgumentTree → List (List ℕ)
text_in [] = []
text_in (text_argument spot text ∷ more) = text ∷ []
text_in (expression_argument e ∷ more) = []
text_in (attribute_argument prefix attribute value ∷ more) = []

-- The text that a statement writes which has no others in it, if it writes one.
abbrev pub simple_texts : StatementTree → List (List ℕ)
simple_texts (call procedure arguments) = text_in arguments
simple_texts other = []

-- What is known once there are these texts too.
abbrev pub with_texts : List (List ℕ) → Known → Known
with_texts texts known = record known { texts = known.texts ++ texts }

-- A statement; nothing is done where something is wrong.
abbrev pub form_or_null : Option StmtForm → StmtForm
form_or_null (Some form) = form
form_or_null None = skips

-- What a statement does, where nothing is wrong with it.
abbrev pub statement_meant : Known → StatementTree → StmtForm
statement_meant known statement = form_or_null (statement_found known statement)
