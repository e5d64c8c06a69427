-- Calls of procedures: what is wrong with the actual parameters of each, and what it does.

use Rattle.std.specs.Prelude.{ℕ, Bool, true, false, ◌&&◌, ◌==◌, not, List, [], ◌∷◌, pos, Option, Some, None}
use Rattle.std.specs.List.{slice_get}
use Rattle.ada_text.specs.declared.spot.Spot.{Spot}
use Rattle.ada_tree.specs.Expressions.{ArgumentTree, ExpressionTree, path_expression, expression_argument}
use Rattle.ada_program.specs.Form.{ActualForm, in_value, in_null, in_access, in_record, in_out_path, in_out_access, in_out_component, in_out_record, ExpressionForm, integer, reads, StmtForm, calls}
use Rattle.ada_program.specs.ProgramForm.{BodyForm, TypeForm, VariableForm}
use Rattle.ada_program.specs.WellFormed.{Profile, profile_of}
use Rattle.ada_program.specs.declared.program.FormalMode.{FormalMode}
use Rattle.ada_program.specs.declared.program.FormalMode.TheVariants.{In, InOut}
use Rattle.ada_program.specs.declared.program.ProcedureNo.{ProcedureNo}
use Rattle.ada_program.specs.declared.program.VariableKind.{VariableKind}
use Rattle.ada_program.specs.declared.program.VariableKind.TheVariants as variable
use Rattle.ada_resolve.specs.declared.fault.NameRule.TheVariants.{WrongType, NotInProfile}
use Rattle.ada_resolve.specs.Assignments.{read_wanted}
use Rattle.ada_resolve.specs.Arguments.{argument_remark, arguments_remark, none_wanted}
use Rattle.ada_resolve.specs.Expressions.{expression_meant, expression_remark}
use Rattle.ada_resolve.specs.Known.{Known}
use Rattle.ada_resolve.specs.Operators.{access_wanted, boolean_wanted, integer_wanted, owner_wanted, scalar_in}
use Rattle.ada_resolve.specs.Paths.{Meant, access_value, boolean_value, integer_value, is_record_kind, null_value, path_meant, record_of_object, record_value, unknown, written_remark}
use Rattle.ada_resolve.specs.Remark.{Remark, fine, wrong, ◌also◌, wrong_if}
use Rattle.ada_resolve.specs.Spots.{argument_spot, expression_spot}

-- A record is wanted of the type of a formal parameter (6.2); of each formal parameter that is a record the type is known.
abbrev pub reference_wanted : (record_type : Option ℕ) → Meant → Spot → Remark
reference_wanted (Some t) unknown spot = fine
reference_wanted (Some t) (record_value path) spot = wrong_if (not (t == path.record_type)) spot WrongType
reference_wanted (Some t) other spot = wrong spot WrongType
reference_wanted None value spot = wrong spot NotInProfile

-- A value of what a formal parameter holds is wanted (6.4.1), where the meaning is known: an Integer, a Boolean, an access value that is no borrower as
-- a whole, or a record.
abbrev pub kind_wanted : List TypeForm → List VariableForm → VariableKind → Meant → Spot → Remark
kind_wanted types variables variable.Integer value spot = integer_wanted value spot
kind_wanted types variables variable.Boolean value spot = boolean_wanted value spot
kind_wanted types variables (variable.Access access) value spot = access_wanted access value spot also owner_wanted variables value spot
kind_wanted types variables (variable.Record object) value spot = reference_wanted (record_of_object types object.0) value spot

-- Whether an expression is a path, without parentheses.
abbrev pub is_path : ExpressionTree → Bool
is_path (path_expression path) = true
is_path other = false

-- A record is passed by reference (6.2): a path leads to it.
abbrev pub path_wanted : VariableKind → ExpressionTree → Remark
path_wanted kind e = wrong_if (is_record_kind kind && not (is_path e)) (expression_spot e) WrongType

-- A variable or a component is wanted that holds this, or a record, for a formal parameter of mode `in out`; what is meant stands at the spot (6.4.1).
-- One of an access type is of this very type, and no borrower as a whole.
abbrev pub variable_wanted : List TypeForm → List VariableForm → VariableKind → Meant → Spot → Remark
variable_wanted types variables kind unknown spot = fine
variable_wanted types variables variable.Integer (integer_value e) spot = read_wanted e spot
variable_wanted types variables variable.Boolean (boolean_value e) spot = read_wanted e spot
variable_wanted types variables (variable.Access access) (access_value path t) spot =
    access_wanted access (access_value path t) spot also owner_wanted variables (access_value path t) spot
variable_wanted types variables (variable.Record object) (record_value path) spot =
    reference_wanted (record_of_object types object.0) (record_value path) spot
variable_wanted types variables kind other spot = wrong spot WrongType

-- What is wrong with the actual parameter for a formal one of a mode that holds this (6.4.1): it is an expression of that type, or the path to a
-- variable, a component or a record, which is no constant, and not the operand that an operation keeps (7.6).
abbrev pub given_remark : Known → FormalMode → VariableKind → ArgumentTree → Remark
given_remark known In kind (expression_argument e) =
    expression_remark known e also kind_wanted known.types known.variables kind (expression_meant known e) (expression_spot e) also path_wanted kind e
given_remark known InOut kind (expression_argument (path_expression path)) =
    expression_remark known (path_expression path) also
    variable_wanted known.types known.variables kind (path_meant known path) path.root.spot also
    written_remark known path (path_meant known path)
given_remark known mode kind other = wrong (argument_spot other) WrongType also argument_remark known other

-- What a formal parameter of mode `in` gets: null, the access value that a path names, a record, or another value; 0 where something is wrong.
abbrev pub given_value : Meant → ActualForm
given_value null_value = in_null
given_value (access_value path t) = in_access path
given_value (record_value path) = in_record path
given_value other = in_value (scalar_in other)

-- An actual parameter by its path: a variable, where nothing is selected, or else a component.
abbrev pub variable_or_component : (alone within : ActualForm) → (selectors : List ℕ) → ActualForm
variable_or_component alone within [] = alone
variable_or_component alone within (c ∷ cs) = within

-- The Integer or Boolean variable, or the component, whose value this is; 0 where it is that of neither.
abbrev pub given_read : ExpressionForm → ActualForm
given_read (reads path) = variable_or_component (in_out_path path) (in_out_component path) path.selectors
given_read other = in_value (integer (pos 0))

-- What a formal parameter of mode `in out` stands for: a variable, a component or a record; 0 where something is wrong.
abbrev pub given_variable : Meant → ActualForm
given_variable (integer_value e) = given_read e
given_variable (boolean_value e) = given_read e
given_variable (access_value path t) = variable_or_component (in_out_access path) (in_out_component path) path.selectors
given_variable (record_value path) = in_out_record path
given_variable other = in_value (integer (pos 0))

-- What the formal parameter of a mode gets; 0 where something is wrong.
abbrev pub given_meant : Known → FormalMode → ArgumentTree → ActualForm
given_meant known In (expression_argument e) = given_value (expression_meant known e)
given_meant known InOut (expression_argument (path_expression path)) = given_variable (path_meant known path)
given_meant known mode other = in_value (integer (pos 0))

-- The first of these modes: `in`, where there is none.
abbrev pub first_mode : List FormalMode → FormalMode
first_mode [] = In
first_mode (m ∷ ms) = m

-- The modes behind the first.
abbrev pub other_modes : List FormalMode → List FormalMode
other_modes [] = []
other_modes (m ∷ ms) = ms

-- What is wrong with the actual parameters of a procedure whose formal ones hold this and have these modes, and which is called here: there is one for
-- each formal parameter, in order (6.4.1). The first that is too many is told.
abbrev pub given_all_remark : Known → Spot → List VariableKind → List FormalMode → List ArgumentTree → Remark
given_all_remark known called [] modes arguments = none_wanted arguments also arguments_remark known arguments
given_all_remark known called (kind ∷ kinds) modes [] = wrong called WrongType
given_all_remark known called (kind ∷ kinds) modes (argument ∷ more) =
    given_remark known (first_mode modes) kind argument also given_all_remark known called kinds (other_modes modes) more

-- What the formal parameters get, in order.
abbrev pub given_all : Known → List VariableKind → List FormalMode → List ArgumentTree → List ActualForm
given_all known [] modes arguments = []
given_all known (kind ∷ kinds) modes [] = []
given_all known (kind ∷ kinds) modes (argument ∷ more) =
    given_meant known (first_mode modes) argument ∷ given_all known kinds (other_modes modes) more

-- The profile of a procedure, if there is one.
abbrev pub profile_in : Option BodyForm → Profile
profile_in (Some body) = profile_of body
profile_in None = record { kinds = []; modes = [] }

-- The profile of the procedure of a number.
unfoldable pub profile : Known → ProcedureNo → Profile
profile known procedure = profile_in (slice_get known.bodies procedure.0)

-- What is wrong with the actual parameters of a call of a procedure.
abbrev pub procedure_call_remark : Known → ProcedureNo → Spot → List ArgumentTree → Remark
procedure_call_remark known procedure called arguments =
    given_all_remark known called (profile known procedure).kinds (profile known procedure).modes arguments

-- What the call does.
abbrev pub procedure_call_found : Known → ProcedureNo → List ArgumentTree → Option StmtForm
procedure_call_found known procedure arguments =
    Some (calls procedure.0 (given_all known (profile known procedure).kinds (profile known procedure).modes arguments))
