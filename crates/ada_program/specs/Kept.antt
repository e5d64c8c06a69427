-- What fits in a program, said of the lists that the program keeps its types, its variables and its texts in.

use Rattle.std.specs.Prelude.{ℕ, Bool, List, map, Option, String}
use Rattle.std.specs.Global.{Global}
use Rattle.std.specs.String.{string_bytes}
use Rattle.ada_program.specs.declared.program.Branch.{Branch}
use Rattle.ada_program.specs.declared.program.ComponentKind.{ComponentKind}
use Rattle.ada_program.specs.declared.program.Declaration.{Declaration}
use Rattle.ada_program.specs.declared.program.Expression.{Expression}
use Rattle.ada_program.specs.declared.program.Handler.{Handler}
use Rattle.ada_program.specs.declared.program.Item.{Item}
use Rattle.ada_program.specs.declared.program.Link.{Link}
use Rattle.ada_program.specs.declared.program.Path.{Path}
use Rattle.ada_program.specs.declared.program.Procedure.{Procedure}
use Rattle.ada_program.specs.declared.program.Program.{Program}
use Rattle.ada_program.specs.declared.program.RecordPath.{RecordPath}
use Rattle.ada_program.specs.declared.program.Right.{Right}
use Rattle.ada_program.specs.declared.program.ScalarType.{ScalarType}
use Rattle.ada_program.specs.declared.program.Stmt.{Stmt}
use Rattle.ada_program.specs.declared.program.TypeDefinition.{TypeDefinition}
use Rattle.ada_program.specs.declared.program.Variable.{Variable}
use Rattle.ada_program.specs.declared.program.VariableKind.{VariableKind}
use Rattle.ada_program.specs.Form.{path_form, record_path_form, expression_form, links_form, item_form, right_form, condition_form, declaration_form, StmtsForm, stmt_form, stmts_form, branches_form, handlers_form}
use Rattle.ada_program.specs.ProgramForm.{TypeForm, type_form, VariableForm, variable_form, body_form, program_form}
use Rattle.ada_program.specs.WellFormed as fits
use Rattle.ada_program.specs.WellFormed.{Creation}

-- The types of a program (3.2.1).
abbrev pub types_in : List TypeDefinition → List TypeForm
types_in types = map type_form types

-- Its variables (3.3.1).
abbrev pub variables_in : List Variable → List VariableForm
variables_in variables = map variable_form variables

-- Its texts.
abbrev pub texts_in : List (String Global) → List (List ℕ)
texts_in texts = map string_bytes texts

-- The profiles of procedures (6.1).
abbrev pub profiles_in : List Procedure → List fits.Profile
profiles_in procedures = map fits.profile_of (map body_form procedures)

-- What is held where a path leads (4.1).
abbrev pub path_kind : List TypeDefinition → List Variable → Path → Option VariableKind
path_kind types variables path =
    fits.path_kind (types_in types) (variables_in variables) (path_form path)

-- The access type of what is held there.
abbrev pub path_access : List TypeDefinition → List Variable → Path → Option ℕ
path_access types variables path =
    fits.path_access (types_in types) (variables_in variables) (path_form path)

-- The type of what an expression reads (4.4).
abbrev pub read_type : List TypeDefinition → List Variable → Path → Option ScalarType
read_type types variables path =
    fits.read_type (types_in types) (variables_in variables) (path_form path)

-- The type of a comparison with null (4.5.2).
abbrev pub null_test_type : List TypeDefinition → List Variable → Path → Option ScalarType
null_test_type types variables path =
    fits.null_test_type (types_in types) (variables_in variables) (path_form path)

-- The type of an expression (4.4).
abbrev pub type_of : List TypeDefinition → List Variable → Expression → Option ScalarType
type_of types variables e =
    fits.type_of (types_in types) (variables_in variables) (expression_form e)

-- The type after operators of one level (4.5).
abbrev pub chain_type : List TypeDefinition → List Variable → Option ScalarType → List Link → Option ScalarType
chain_type types variables left links =
    fits.chain_type (types_in types) (variables_in variables) left (links_form links)

-- Whether an expression has this type (4.4).
abbrev pub has_type : List TypeDefinition → List Variable → ScalarType → Expression → Bool
has_type types variables type e =
    fits.has_type (types_in types) (variables_in variables) type (expression_form e)

-- Whether a path leads to a record of its type (4.1).
abbrev pub is_record_path : List TypeDefinition → List Variable → RecordPath → Bool
is_record_path types variables p = fits.is_record_path (types_in types) (variables_in variables) (record_path_form p)

-- Whether an item is a value of a component (4.3.1).
abbrev pub component_item_fits : List TypeDefinition → List Variable → ComponentKind → Item → Bool
component_item_fits types variables kind i =
    fits.component_item_fits (types_in types) (variables_in variables) kind (item_form i)

-- Whether an item is for the first of these components (4.3.1).
abbrev pub item_fits : List TypeDefinition → List Variable → List ComponentKind → Item → Bool
item_fits types variables components i =
    fits.item_fits (types_in types) (variables_in variables) components (item_form i)

-- Whether there is one item for each component, in order (4.3.1).
abbrev pub items_fit : List TypeDefinition → List Variable → List ComponentKind → List Item → Bool
items_fit types variables components items =
    fits.items_fit (types_in types) (variables_in variables) components (map item_form items)

-- Whether the items are those of an object that an access type's values designate (4.8).
abbrev pub is_filled : List TypeDefinition → List Variable → ℕ → List Item → Bool
is_filled types variables access items = fits.is_filled (types_in types) (variables_in variables)
    (fits.reached_components (types_in types) access) (map item_form items)

-- What may be assigned where an access value is held (4.8, 5.2).
abbrev pub access_fits : List TypeDefinition → List Variable → ℕ → Right → Bool
access_fits types variables access right =
    fits.access_fits (types_in types) (variables_in variables) access (right_form right)

-- What may be assigned where an Integer or a Boolean is held (5.2).
abbrev pub scalar_fits : List TypeDefinition → List Variable → ScalarType → Right → Bool
scalar_fits types variables type right =
    fits.scalar_fits (types_in types) (variables_in variables) type (right_form right)

-- What may be assigned to something, if it is there (5.2).
abbrev pub right_fits : List TypeDefinition → List Variable → Option VariableKind → Right → Bool
right_fits types variables kind right =
    fits.right_fits (types_in types) (variables_in variables) kind (right_form right)

-- Whether a collection is that of an access type (7.6.1).
abbrev pub collection_fits : List TypeDefinition → Declaration → Bool
collection_fits types d = fits.collection_fits (types_in types) (declaration_form d)

-- Whether the collections of a part are created before its first variable (3.11).
abbrev pub collections_first : List Declaration → Bool
collections_first ds = fits.collections_first (map declaration_form ds)

-- What a declaration creates (3.11).
abbrev pub creation : Declaration → Creation
creation d = fits.creation (declaration_form d)

-- What the declarations of a part create.
abbrev pub created : List Declaration → List Creation
created ds = map fits.creation (map declaration_form ds)

-- What its main procedure creates, in the order of the text.
abbrev pub creations : Program → List Creation
creations program = fits.creations (program_form program)

-- What a program creates.
abbrev pub all_creations : Program → List Creation
all_creations program = fits.all_creations (program_form program)

-- Whether each access type has one collection (7.6.1).
abbrev pub has_collections : List Creation → List TypeDefinition → Bool
has_collections cs types = fits.has_collections cs 0 (types_in types)

-- Whether the variable of a number is a borrower (3.10).
abbrev pub is_borrower : List Variable → ℕ → Bool
is_borrower variables x = fits.is_borrower (variables_in variables) x

-- Whether a path names a borrower.
abbrev pub names_borrower : List Variable → Path → Bool
names_borrower variables path = fits.names_borrower (variables_in variables) (path_form path)

-- Whether an item is no borrower (4.8).
abbrev pub item_owns : List Variable → Item → Bool
item_owns variables i = fits.item_owns (variables_in variables) (item_form i)

-- Whether what is assigned suits what it goes to, a borrower or not.
abbrev pub lends_to : List Variable → (borrows : Bool) → Right → Bool
lends_to variables borrows right = fits.lends_to (variables_in variables) borrows (right_form right)

-- Whether an initial value names earlier variables, and has the variable's type (3.3.1).
abbrev pub initial_fits : List TypeDefinition → List Variable → Declaration → Bool
initial_fits types variables d =
    fits.initial_fits (types_in types) (variables_in variables) (declaration_form d)

-- Whether the declarations of a part fit (3.11).
abbrev pub declarations_fit : List TypeDefinition → List Variable → List Declaration → Bool
declarations_fit types variables ds = fits.declarations_fit (types_in types) (variables_in variables) (map declaration_form ds)

-- Whether a path is an Integer, to which what the input gives may go.
abbrev pub is_integer_target : List TypeDefinition → List Variable → Path → Bool
is_integer_target types variables path =
    fits.is_integer_target (types_in types) (variables_in variables) (path_form path)

-- Whether a condition, where there is one, is a Boolean (5.5, 5.7).
abbrev pub condition_fits : List TypeDefinition → List Variable → Option Expression → Bool
condition_fits types variables condition =
    fits.condition_fits (types_in types) (variables_in variables) (condition_form condition)

-- Whether the items of a record are values of its components, and no borrowers (4.3.1).
abbrev pub record_fits : List TypeDefinition → List Variable → (record_type : ℕ) → List Item → Bool
record_fits types variables t items =
    fits.record_fits (types_in types) (variables_in variables) t (map item_form items)

-- Whether a statement names variables and texts of the program, and has the types that it wants.
abbrev pub statement_fits : List TypeDefinition → List Variable → (texts exceptions : List (String Global)) → (callable : List Procedure) → (inside_loop : Bool) → Stmt → Bool
statement_fits types variables texts exceptions callable inside_loop s =
    fits.statement_fits (types_in types) (variables_in variables) (texts_in texts) (texts_in exceptions) (profiles_in callable) inside_loop (stmt_form s)

-- Whether statements that stand behind one another all do, whatever they are kept in.
abbrev pub forms_fit : List TypeDefinition → List Variable → (texts exceptions : List (String Global)) → (callable : List Procedure) → (inside_loop : Bool) → StmtsForm → Bool
forms_fit types variables texts exceptions callable inside_loop fs =
    fits.stmts_fit (types_in types) (variables_in variables) (texts_in texts) (texts_in exceptions) (profiles_in callable) inside_loop fs

-- Whether the statements of a list all do.
abbrev pub stmts_fit : List TypeDefinition → List Variable → (texts exceptions : List (String Global)) → (callable : List Procedure) → (inside_loop : Bool) → List Stmt → Bool
stmts_fit types variables texts exceptions callable inside_loop ss =
    forms_fit types variables texts exceptions callable inside_loop (stmts_form ss)

-- Whether branches, and the statements after the last of them, do, and each condition is a Boolean (5.3).
abbrev pub branches_fit : List TypeDefinition → List Variable → (texts exceptions : List (String Global)) → (callable : List Procedure) → (inside_loop : Bool) → List Branch → StmtsForm → Bool
branches_fit types variables texts exceptions callable inside_loop branches others =
    fits.branches_fit (types_in types) (variables_in variables) (texts_in texts) (texts_in exceptions) (profiles_in callable) inside_loop (branches_form branches others)

-- Whether handlers name exceptions of the program, and their statements fit (11.2).
abbrev pub handlers_fit : List TypeDefinition → List Variable → (texts exceptions : List (String Global)) → (callable : List Procedure) → (inside_loop : Bool) → List Handler → Bool
handlers_fit types variables texts exceptions callable inside_loop handlers =
    fits.handlers_fit (types_in types) (variables_in variables) (texts_in texts) (texts_in exceptions) (profiles_in callable) inside_loop (handlers_form handlers)
