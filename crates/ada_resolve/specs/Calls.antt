-- Calls: what is wrong with each, and what it does.

use Rattle.std.specs.Prelude.{ℕ, Bool, true, false, ◌==◌, not, if◌then◌else◌, List, [], ◌∷◌, Option, Some, None}
use Rattle.ada_text.specs.declared.spot.Spot.{Spot}
use Rattle.ada_tree.specs.Names.{Ident, PathTree}
use Rattle.ada_tree.specs.Expressions.{ExpressionTree, path_expression, ArgumentTree, expression_argument}
use Rattle.ada_program.specs.Form.{StmtForm, frees, gets, reads}
use Rattle.ada_program.specs.ProgramForm.{VariableForm}
use Rattle.ada_program.specs.declared.program.TypeNo.{TypeNo}
use Rattle.ada_resolve.specs.declared.calls.Callee.{Callee}
use Rattle.ada_resolve.specs.declared.calls.Callee.TheVariants as callee
use Rattle.ada_resolve.specs.declared.fault.NameRule.TheVariants.{WrongType, NotInProfile}
use Rattle.ada_resolve.specs.declared.library.LibraryName.{LibraryName}
use Rattle.ada_resolve.specs.declared.library.LibraryName.TheVariants.{PutLine, Get}
use Rattle.ada_resolve.specs.declared.scope.Entity.{Entity}
use Rattle.ada_resolve.specs.declared.scope.Entity.TheVariants as entity
use Rattle.ada_resolve.specs.Known.{Known, visible, missing, library_path_remark, library_path_found, is_empty}
use Rattle.ada_resolve.specs.Library.{is_library_root}
use Rattle.ada_resolve.specs.Remark.{Remark, fine, wrong, node, ◌also◌, wrong_if}
use Rattle.ada_resolve.specs.Spots.{argument_spot, expression_spot}
use Rattle.ada_resolve.specs.Actuals.{procedure_call_found, procedure_call_remark}
use Rattle.ada_resolve.specs.Arguments.{argument_remark, arguments_remark, none_wanted}
use Rattle.ada_resolve.specs.Expressions.{expression_remark}
use Rattle.ada_resolve.specs.Lines.{put_line_found, put_line_remark}
use Rattle.ada_resolve.specs.Operators.{owner_wanted}
use Rattle.ada_resolve.specs.Paths.{Meant, access_value, integer_value, path_meant, unknown, written_remark}

-- `Free (X);` (13.11.2): the actual is a variable or a component of the instance's access type, and no borrower as a whole.
abbrev pub freed_wanted : List VariableForm → TypeNo → Meant → Spot → Remark
freed_wanted variables access unknown spot = fine
freed_wanted variables access (access_value path t) spot =
    wrong_if (not (t.0 == access.0)) spot WrongType also owner_wanted variables (access_value path t) spot
freed_wanted variables access other spot = wrong spot WrongType

-- `Run_Input.Get (X);`: the actual is an Integer, a variable or a component.
abbrev pub got_wanted : Meant → Spot → Remark
got_wanted unknown spot = fine
got_wanted (integer_value (reads path)) spot = fine
got_wanted other spot = wrong spot WrongType

-- What a procedure wants of its one actual, which stands at the spot (6.4.1).
abbrev pub actual_wanted : List VariableForm → Callee → Meant → Spot → Remark
actual_wanted variables (callee.Free access) meant spot = freed_wanted variables access meant spot
actual_wanted variables callee.Get meant spot = got_wanted meant spot

-- An actual that is no path is of the wrong kind, and what is wrong with it as an expression is told too.
abbrev pub no_path_remark : Known → ExpressionTree → Remark
no_path_remark known value = wrong (expression_spot value) WrongType also expression_remark known value

-- What is wrong with the actual of a procedure that takes a variable: it is a path, and no constant.
abbrev pub actual_remark : Known → Callee → ArgumentTree → Remark
actual_remark known taker (expression_argument (path_expression path)) =
    expression_remark known (path_expression path) also
    written_remark known path (path_meant known path) also
    actual_wanted known.variables taker (path_meant known path) path.root.spot
actual_remark known taker other = wrong (argument_spot other) WrongType also argument_remark known other

-- What the path gives access to is freed, by the instance of this access type.
abbrev pub freeing : TypeNo → Meant → Option StmtForm
freeing access (access_value path t) = Some (frees access.0 path)
freeing access other = None

-- The next number of the input goes to the Integer.
abbrev pub getting : Meant → Option StmtForm
getting (integer_value (reads path)) = Some (gets path)
getting other = None

-- What a procedure does with its one actual.
abbrev pub taking : Callee → Meant → Option StmtForm
taking (callee.Free access) meant = freeing access meant
taking callee.Get meant = getting meant

-- What is done with the actual, or `None` where something is wrong.
abbrev pub actual_found : Known → Callee → ArgumentTree → Option StmtForm
actual_found known taker (expression_argument (path_expression path)) = taking taker (path_meant known path)
actual_found known taker other = None

-- What is wrong with the actuals of a procedure that takes one variable, which is called here.
unfoldable pub taker_remark : Known → Callee → Spot → List ArgumentTree → Remark
taker_remark known taker called [] = wrong called WrongType
taker_remark known taker called (argument ∷ more) =
    actual_remark known taker argument also none_wanted more also arguments_remark known more

-- What a call of such a procedure does, or `None` where something is wrong.
unfoldable pub taker_found : Known → Callee → List ArgumentTree → Option StmtForm
taker_found known taker [] = None
taker_found known taker (argument ∷ more) = actual_found known taker argument

-- A call of a name of the library: Put_Line and Get; no other name is one of a procedure that is called (6.4).
abbrev pub library_call_remark : Option LibraryName → Known → Spot → List ArgumentTree → Remark
library_call_remark (Some PutLine) known called arguments = put_line_remark known called arguments
library_call_remark (Some Get) known called arguments = taker_remark known callee.Get called arguments
library_call_remark (Some other) known called arguments = wrong called WrongType
library_call_remark None known called arguments = fine

-- What a call of a name of the library does, or `None` where something is wrong.
abbrev pub library_call_found : Option LibraryName → Known → ℕ → List ArgumentTree → Option StmtForm
library_call_found (Some PutLine) known texts arguments = put_line_found known texts arguments
library_call_found (Some Get) known texts arguments = taker_found known callee.Get arguments
library_call_found (Some other) known texts arguments = None
library_call_found None known texts arguments = None

-- A call of a declared name: of an instance of Unchecked_Deallocation, or of a procedure; a call of one whose body has not ended is not in the
-- profile yet.
abbrev pub own_call_remark : Option Entity → Bool → Known → Ident → List ArgumentTree → Remark
own_call_remark (Some (entity.Instance t)) true known name arguments = taker_remark known (callee.Free t) name.spot arguments
own_call_remark (Some (entity.Instance t)) false known name arguments = wrong name.spot WrongType
own_call_remark (Some (entity.Callable p)) true known name arguments = procedure_call_remark known p name.spot arguments
own_call_remark (Some (entity.Callable p)) false known name arguments = wrong name.spot WrongType
own_call_remark (Some entity.Procedure) true known name arguments = wrong name.spot NotInProfile
own_call_remark (Some entity.Procedure) false known name arguments = wrong name.spot WrongType
own_call_remark (Some other) alone known name arguments = wrong name.spot WrongType
own_call_remark None alone known name arguments = missing None name

-- What a call of a declared name does, or `None` where something is wrong.
abbrev pub own_call_found : Option Entity → Bool → Known → List ArgumentTree → Option StmtForm
own_call_found (Some (entity.Instance t)) true known arguments = taker_found known (callee.Free t) arguments
own_call_found (Some (entity.Instance t)) false known arguments = None
own_call_found (Some (entity.Callable p)) true known arguments = procedure_call_found known p arguments
own_call_found (Some (entity.Callable p)) false known arguments = None
own_call_found (Some other) alone known arguments = None
own_call_found None alone known arguments = None

-- What is wrong with a call of a name, which stands alone or has selectors behind it.
abbrev pub named_call_remark : Known → Ident → Bool → List ArgumentTree → Remark
named_call_remark known name alone arguments = own_call_remark (visible known name.text) alone known name arguments

-- What a call of a name does, or `None` where something is wrong.
abbrev pub named_call_found : Known → Ident → Bool → List ArgumentTree → Option StmtForm
named_call_found known name alone arguments = own_call_found (visible known name.text) alone known arguments

-- What is wrong with the procedure that a call names, and with the arguments for it.
abbrev pub callee_remark : Known → PathTree → List ArgumentTree → Remark
callee_remark known procedure arguments =
    if is_library_root procedure.root.text
    then library_path_remark known procedure also
    library_call_remark (library_path_found known procedure) known procedure.root.spot arguments
    else named_call_remark known procedure.root (is_empty procedure.selectors) arguments

-- `P (..);` (6.4): what is wrong with a call, which is a node of the source.
abbrev pub call_remark : Known → PathTree → List ArgumentTree → Remark
call_remark known procedure arguments = node procedure.root.spot also callee_remark known procedure arguments

-- What a call does, or `None` where something is wrong. A text that it writes gets the number of texts before it.
abbrev pub call_found : Known → ℕ → PathTree → List ArgumentTree → Option StmtForm
call_found known texts procedure arguments =
    if is_library_root procedure.root.text
    then library_call_found (library_path_found known procedure) known texts arguments
    else named_call_found known procedure.root (is_empty procedure.selectors) arguments
