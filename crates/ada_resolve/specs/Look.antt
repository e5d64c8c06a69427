-- What a look at each part of a tree gives, by its parts as the code has them. The methods of the resolver that change nothing look so.

use Rattle.std.specs.Prelude.{◌≡◌, ℕ, Bool, List, ◌∷◌, map, Option, Some, Result, Ok, Err}
use denote.MutBor.{MutBor}
use denote.Triple.Both.{Both}
use Rattle.ada_text.specs.declared.spot.Spot.{Spot}
use Rattle.ada_values.specs.declared.operator.UnaryOperator.{UnaryOperator}
use Rattle.ada_tree.specs.ExpressionView.{argument_of, expression_of, items_of, optional_right_of, right_of}
use Rattle.ada_tree.specs.Expressions.{aggregate_expression, expression_argument, expression_right, unary_expression}
use Rattle.ada_tree.specs.Names.{ident_of, path_of, selector_of}
use Rattle.ada_tree.specs.Records.{component_of, record_of}
use Rattle.ada_tree.specs.Declarations.{choice_of, formal_of}
use Rattle.ada_tree.specs.StatementView.{condition_of, statement_of}
use Rattle.ada_tree.specs.declared.declarations.Formal.{Formal}
use Rattle.ada_tree.specs.declared.expressions.Argument.{Argument}
use Rattle.ada_tree.specs.declared.expressions.Expression.{Expression}
use Rattle.ada_tree.specs.declared.expressions.Item.{Item}
use Rattle.ada_tree.specs.declared.expressions.Link.{Link}
use Rattle.ada_tree.specs.declared.expressions.Right.{Right}
use Rattle.ada_tree.specs.declared.names.Identifier.{Identifier}
use Rattle.ada_tree.specs.declared.names.Path.{Path}
use Rattle.ada_tree.specs.declared.names.Selector.{Selector}
use Rattle.ada_tree.specs.declared.records.ComponentDefinition.{ComponentDefinition}
use Rattle.ada_tree.specs.declared.records.RecordDefinition.{RecordDefinition}
use Rattle.ada_tree.specs.declared.statements.Choice.{Choice}
use Rattle.ada_tree.specs.declared.statements.Statement.{Statement}
use Rattle.ada_program.specs.Form.{ActualForm, ExpressionForm, PathForm, RightForm, StmtForm}
use Rattle.ada_program.specs.declared.program.FormalMode.{FormalMode}
use Rattle.ada_program.specs.declared.program.FormalMode.TheVariants.{InOut}
use Rattle.ada_program.specs.declared.program.Choice.{Choice as ChoiceOf}
use Rattle.ada_program.specs.Kept.{variables_in}
use Rattle.ada_program.specs.WellFormed.{kind_held}
use Rattle.ada_program.specs.declared.program.ProcedureNo.{ProcedureNo}
use Rattle.ada_program.specs.declared.program.TypeNo.{TypeNo}
use Rattle.ada_program.specs.declared.program.Variable.{Variable}
use Rattle.ada_program.specs.declared.program.VariableKind.{VariableKind}
use Rattle.ada_program.specs.declared.program.VariableNo.{VariableNo}
use Rattle.ada_resolve.specs.declared.calls.Callee.{Callee}
use Rattle.ada_resolve.specs.declared.fault.NameFault.{NameFault}
use Rattle.ada_resolve.specs.declared.fault.NameFault.TheVariants.{NoMemory}
use Rattle.ada_resolve.specs.declared.library.LibraryName.{LibraryName}
use Rattle.ada_resolve.specs.declared.notes.Notes.{Notes}
use Rattle.ada_resolve.specs.declared.rights.Held.{Held}
use Rattle.ada_resolve.specs.declared.scope.Role.{Role}
use Rattle.ada_resolve.specs.declared.selectors.Reached.{Reached}
use Rattle.ada_resolve.specs.Actuals.{given_all, given_all_remark, given_meant, given_remark, procedure_call_found, procedure_call_remark, profile}
use Rattle.ada_resolve.specs.Allocators.{aggregate_found, aggregate_remark, allocated_remark, default_found, new_found, new_remark}
use Rattle.ada_resolve.specs.Arguments.{image_value_remark}
use Rattle.ada_resolve.specs.Assignments.{Target, assignment_found, assignment_remark, target_found, target_remark}
use Rattle.ada_resolve.specs.Borrowers.{lender_found, lender_remark}
use Rattle.ada_resolve.specs.Calls.{actual_found, actual_remark, call_found, call_remark, library_call_found, library_call_remark, named_call_found, named_call_remark, taker_found, taker_remark}
use Rattle.ada_resolve.specs.Chains.{links_meant, links_remark}
use Rattle.ada_resolve.specs.Exceptions.{choices_meant, choices_remark}
use Rattle.ada_resolve.specs.Expressions.{expression_meant, expression_remark, filling_of, items_remark}
use Rattle.ada_resolve.specs.Items.{Filling, filled_components, first_filling, names_component}
use Rattle.ada_resolve.specs.Known.{library_path_found, library_path_remark}
use Rattle.ada_resolve.specs.Lines.{line_found, line_remark, put_line_found, put_line_remark}
use Rattle.ada_resolve.specs.Kept.{kept_from}
use Rattle.ada_resolve.specs.Method.{Seen, known, IsNoted}
use Rattle.ada_resolve.specs.Objects.{initial_found, initial_remark}
use Rattle.ada_resolve.specs.Operators.{integer_in}
use Rattle.ada_resolve.specs.Paths.{Meant, named_meant, named_remark, outer_meant, path_meant, path_remark, selector_reached, selector_remark, selectors_reached, selectors_remark, variable_meant, variable_path_remark}
use Rattle.ada_resolve.specs.Records.{Composition, components_remark, components_written}
use Rattle.ada_resolve.specs.Procedures.{Formals, formals_remark, no_formals, with_formals}
use Rattle.ada_resolve.specs.Remark.{Remark}
use Rattle.ada_resolve.specs.Rights.{Assigned, right_found, right_remark}
use Rattle.ada_resolve.specs.Statements.{condition_meant, condition_remark, exit_found, exit_remark, bound_meant, bound_remark, statement_found, statement_remark}

-- What is wrong with a part, and what it means.
pub record Look (Y : Type 0) : Type 0 where
  pub remark : Remark
  pub meaning : Y

-- The call notes the remark and answers the meaning, seen through a view, unless memory runs out.
abbrev pub Looks : {X Y : Type 0} → (X → Y) → Result X NameFault → Both (MutBor Notes) (MutBor Notes) → Look Y → Type 0
Looks view (Ok x) notes look = (view x ≡ look.meaning) × IsNoted notes look.remark
Looks view (Err e) notes look = e ≡ NoMemory

-- An expression (4.4).
abbrev pub expression_look : Seen → Expression → Look Meant
expression_look seen e = record {
  remark = expression_remark (known seen) (expression_of e);
  meaning = expression_meant (known seen) (expression_of e);
}

-- An operator with its one operand (4.5.4, 4.5.6).
abbrev pub unary_look : Seen → UnaryOperator → Spot → Expression → Look Meant
unary_look seen operator spot operand = record {
  remark = expression_remark (known seen) (unary_expression operator spot (expression_of operand));
  meaning = expression_meant (known seen) (unary_expression operator spot (expression_of operand));
}

-- The operators of a chain behind a left operand, where the chain begins at the spot (4.5).
abbrev pub links_look : Seen → Meant → Spot → List Link → Look Meant
links_look seen left spot links = record {
  remark = links_remark (known seen) left spot links;
  meaning = links_meant (known seen) left links;
}

-- A path where a value is wanted (4.1).
abbrev pub path_look : Seen → Path → Look Meant
path_look seen path = record { remark = path_remark (known seen) (path_of path); meaning = path_meant (known seen) (path_of path) }

-- A name and what is selected from it, where a value is wanted.
abbrev pub named_look : Seen → Identifier → List Selector → Look Meant
named_look seen name selectors = record {
  remark = named_remark (known seen) (ident_of name) (map selector_of selectors);
  meaning = named_meant (known seen) (ident_of name) (map selector_of selectors);
}

-- A variable and what is selected from it.
abbrev pub variable_look : Seen → VariableNo → Spot → VariableKind → List Selector → Look Meant
variable_look seen x spot kind selectors = record {
  remark = variable_path_remark (known seen) spot kind (map selector_of selectors);
  meaning = variable_meant (known seen) x spot kind (map selector_of selectors);
}

-- An object of a body around and what is selected from it, apart from that it isn't in the profile.
abbrev pub outer_look : Seen → VariableKind → Role → Spot → List Selector → Look Meant
outer_look seen kind role spot selectors = record {
  remark = variable_path_remark (known seen) spot kind (map selector_of selectors);
  meaning = outer_meant (known seen) kind role spot (map selector_of selectors);
}

-- A selector behind what is reached (4.1), where the path stands at the spot.
abbrev pub selector_look : Seen → Spot → Reached → Selector → Look Reached
selector_look seen spot at s = record {
  remark = selector_remark (known seen) spot at (selector_of s);
  meaning = selector_reached (known seen) at (selector_of s);
}

-- Selectors, one behind the other.
abbrev pub selectors_look : Seen → Spot → Reached → List Selector → Look Reached
selectors_look seen spot at selectors = record {
  remark = selectors_remark (known seen) spot at (map selector_of selectors);
  meaning = selectors_reached (known seen) at (map selector_of selectors);
}

-- A path that begins with a root of the library.
abbrev pub library_path_look : Seen → Path → Look (Option LibraryName)
library_path_look seen path = record {
  remark = library_path_remark (known seen) (path_of path);
  meaning = library_path_found (known seen) (path_of path);
}

-- `Integer'Image` of a value (3.5).
abbrev pub image_look : Seen → Identifier → Identifier → Expression → Look ExpressionForm
image_look seen prefix attribute value = record {
  remark = image_value_remark (known seen) (ident_of prefix) (ident_of attribute) (expression_of value);
  meaning = integer_in (expression_meant (known seen) (expression_of value));
}

-- The items of an aggregate of a record type, where that is known, one by one (4.3.1).
abbrev pub items_look : Seen → Option TypeNo → List Item → Look Filling
items_look seen found items = record {
  remark =
      items_remark (known seen) (filled_components (known seen) found) (names_component (items_of items))
      (first_filling (filled_components (known seen) found)) (items_of items);
  meaning = filling_of (known seen) (filled_components (known seen) found) (items_of items);
}

-- `T'(..)` (4.7).
abbrev pub qualified_look : Seen → Identifier → List Item → Look Meant
qualified_look seen type_name items = record {
  remark = expression_remark (known seen) (aggregate_expression (ident_of type_name) (items_of items));
  meaning = expression_meant (known seen) (aggregate_expression (ident_of type_name) (items_of items));
}

-- `new T'(..)` (4.8).
abbrev pub aggregate_look : Seen → Option TypeNo → Spot → Identifier → List Item → Look (Option RightForm)
aggregate_look seen access spot type_name items = record {
  remark = aggregate_remark (known seen) access spot (ident_of type_name) (items_of items);
  meaning = aggregate_found (known seen) access (ident_of type_name) (items_of items);
}

-- `new T` (4.8).
abbrev pub default_look : Seen → Option TypeNo → Spot → Identifier → Look (Option RightForm)
default_look seen access spot type_name = record {
  remark = allocated_remark (known seen) access spot (ident_of type_name);
  meaning = default_found (known seen) access (ident_of type_name);
}

-- `new T` or `new T'(..)` (4.8).
abbrev pub new_look : Seen → Option TypeNo → Spot → Identifier → List Item → Look (Option RightForm)
new_look seen access spot type_name items = record {
  remark = new_remark (known seen) access spot (ident_of type_name) (items_of items);
  meaning = new_found (known seen) access (ident_of type_name) (items_of items);
}

-- What is assigned (5.2).
abbrev pub right_look : Seen → Option Held → (borrows : Bool) → Right → Look (Option Assigned)
right_look seen kind borrows right = record {
  remark = right_remark (known seen) kind borrows (right_of right);
  meaning = right_found (known seen) kind (right_of right);
}

-- The initial value of an object (3.3.1).
abbrev pub initial_look : Seen → Option Held → Option Right → Look (Option Assigned)
initial_look seen kind initial = record {
  remark = initial_remark (known seen) kind (optional_right_of initial);
  meaning = initial_found (known seen) kind (optional_right_of initial);
}

-- The initial value of a borrower (3.10).
abbrev pub lender_look : Seen → Identifier → Option TypeNo → Option Right → Look (Option (PathForm × TypeNo))
lender_look seen name designated initial = record {
  remark = lender_remark (known seen) (ident_of name) designated (optional_right_of initial);
  meaning = lender_found (known seen) (optional_right_of initial);
}

-- The initial value of a borrower, where it is an expression.
abbrev pub lending_look : Seen → Identifier → Option TypeNo → Expression → Look (Option (PathForm × TypeNo))
lending_look seen name designated value = record {
  remark = lender_remark (known seen) (ident_of name) designated (Some (expression_right (expression_of value)));
  meaning = lender_found (known seen) (Some (expression_right (expression_of value)));
}

-- A call (6.4). A text that it writes gets this number.
abbrev pub call_look : Seen → ℕ → Path → List Argument → Look (Option StmtForm)
call_look seen text procedure arguments = record {
  remark = call_remark (known seen) (path_of procedure) (map argument_of arguments);
  meaning = call_found (known seen) text (path_of procedure) (map argument_of arguments);
}

-- A call of a name of the library.
abbrev pub library_call_look : Seen → Option LibraryName → ℕ → Spot → List Argument → Look (Option StmtForm)
library_call_look seen found text called arguments = record {
  remark = library_call_remark found (known seen) called (map argument_of arguments);
  meaning = library_call_found found (known seen) text (map argument_of arguments);
}

-- A call of a declared name, which stands alone or not.
abbrev pub named_call_look : Seen → Identifier → Bool → List Argument → Look (Option StmtForm)
named_call_look seen name alone arguments = record {
  remark = named_call_remark (known seen) (ident_of name) alone (map argument_of arguments);
  meaning = named_call_found (known seen) (ident_of name) alone (map argument_of arguments);
}

-- A call of a procedure that takes one variable (6.4.1).
abbrev pub taker_look : Seen → Callee → Spot → List Argument → Look (Option StmtForm)
taker_look seen taker called arguments = record {
  remark = taker_remark (known seen) taker called (map argument_of arguments);
  meaning = taker_found (known seen) taker (map argument_of arguments);
}

-- The actual of such a procedure.
abbrev pub actual_look : Seen → Callee → Argument → Look (Option StmtForm)
actual_look seen taker argument = record {
  remark = actual_remark (known seen) taker (argument_of argument);
  meaning = actual_found (known seen) taker (argument_of argument);
}

-- The actual of such a procedure, where it is an expression.
abbrev pub actual_value_look : Seen → Callee → Expression → Look (Option StmtForm)
actual_value_look seen taker value = record {
  remark = actual_remark (known seen) taker (expression_argument (expression_of value));
  meaning = actual_found (known seen) taker (expression_argument (expression_of value));
}

-- A call of Put_Line (A.10.7).
abbrev pub put_line_look : Seen → ℕ → Spot → List Argument → Look (Option StmtForm)
put_line_look seen text called arguments = record {
  remark = put_line_remark (known seen) called (map argument_of arguments);
  meaning = put_line_found (known seen) text (map argument_of arguments);
}

-- What Put_Line writes.
abbrev pub line_look : Seen → ℕ → Argument → Look (Option StmtForm)
line_look seen text argument = record {
  remark = line_remark (known seen) (argument_of argument);
  meaning = line_found (known seen) text (argument_of argument);
}

-- A call of a procedure with these formal parameters (6.4.1).
abbrev pub actuals_look : Seen → Spot → List Variable → List FormalMode → List Argument → Look (List ActualForm)
actuals_look seen called formals modes arguments = record {
  remark = given_all_remark (known seen) called (map kind_held (variables_in formals)) modes (map argument_of arguments);
  meaning = given_all (known seen) (map kind_held (variables_in formals)) modes (map argument_of arguments);
}

-- The actual parameters of a call of the procedure of a number.
abbrev pub profile_look : Seen → ProcedureNo → Spot → List Argument → Look (List ActualForm)
profile_look seen procedure called arguments = record {
  remark = procedure_call_remark (known seen) procedure called (map argument_of arguments);
  meaning = given_all (known seen) (profile (known seen) procedure).kinds (profile (known seen) procedure).modes (map argument_of arguments);
}

-- The actual parameter for a formal one of a mode that holds this.
abbrev pub given_look : Seen → FormalMode → VariableKind → Argument → Look ActualForm
given_look seen mode kind argument = record {
  remark = given_remark (known seen) mode kind (argument_of argument);
  meaning = given_meant (known seen) mode (argument_of argument);
}

-- The actual parameter for one of mode `in out` that holds this, where it is an expression.
abbrev pub given_variable_look : Seen → VariableKind → Expression → Look ActualForm
given_variable_look seen kind value = record {
  remark = given_remark (known seen) InOut kind (expression_argument (expression_of value));
  meaning = given_meant (known seen) InOut (expression_argument (expression_of value));
}

-- A call of the procedure of a number.
abbrev pub procedure_call_look : Seen → ProcedureNo → Spot → List Argument → Look (Option StmtForm)
procedure_call_look seen procedure called arguments = record {
  remark = procedure_call_remark (known seen) procedure called (map argument_of arguments);
  meaning = procedure_call_found (known seen) procedure (map argument_of arguments);
}

-- The formals of a body (6.1).
abbrev pub formals_look : Seen → List Formal → Look Formals
formals_look seen formals = record {
  remark = formals_remark (known seen) no_formals (map formal_of formals);
  meaning = with_formals (known seen) (map formal_of formals) no_formals;
}

-- A statement (5.1).
abbrev pub statement_look : Seen → (inside_loop : Bool) → Statement → Look (Option StmtForm)
statement_look seen inside_loop statement = record {
  remark = statement_remark (known seen) inside_loop (statement_of statement);
  meaning = statement_found (known seen) (statement_of statement);
}

-- A bound of a range (5.5).
abbrev pub bound_look : Seen → Expression → Look ExpressionForm
bound_look seen bound = record {
  remark = bound_remark (known seen) (expression_of bound);
  meaning = bound_meant (known seen) (expression_of bound);
}

-- The choices of a handler (11.2).
abbrev pub choices_look : Seen → List Choice → Look (List ChoiceOf)
choices_look seen choices = record {
  remark = choices_remark (known seen) (map choice_of choices);
  meaning = choices_meant (known seen) (map choice_of choices);
}

-- A condition (5.3).
abbrev pub condition_look : Seen → Expression → Look ExpressionForm
condition_look seen condition = record {
  remark = condition_remark (known seen) (expression_of condition);
  meaning = condition_meant (known seen) (expression_of condition);
}

-- An exit (5.7).
abbrev pub exit_look : Seen → (inside_loop : Bool) → Spot → Option Expression → Look (Option StmtForm)
exit_look seen inside_loop spot condition = record {
  remark = exit_remark (known seen) inside_loop spot (condition_of condition);
  meaning = exit_found (known seen) spot (condition_of condition);
}

-- An assignment (5.2).
abbrev pub assignment_look : Seen → Path → Right → Look (Option StmtForm)
assignment_look seen target value = record {
  remark = assignment_remark (known seen) (path_of target) (right_of value);
  meaning = assignment_found (known seen) (path_of target) (right_of value);
}

-- A target, with what it holds.
abbrev pub target_look : Seen → Path → Look (Option Target)
target_look seen target = record {
  remark = target_remark (known seen) (path_of target);
  meaning = target_found (known seen) (path_of target);
}

-- What a record type is made of (3.8), as the code keeps it, with these components behind what it is made of before.
abbrev pub components_look : Seen → Composition → RecordDefinition → Look Composition
components_look seen before definition = record {
  remark = components_remark (known seen) before (components_written (record_of definition));
  meaning = kept_from (known seen) before (components_written (record_of definition));
}

-- The components that are listed.
abbrev pub listed_look : Seen → Composition → ComponentDefinition → List ComponentDefinition → Look Composition
listed_look seen before first rest = record {
  remark = components_remark (known seen) before (map component_of (first ∷ rest));
  meaning = kept_from (known seen) before (map component_of (first ∷ rest));
}
