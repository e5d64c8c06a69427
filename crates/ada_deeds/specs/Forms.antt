-- What forms do, by their text alone, where this is known of what they call. What is behind a jump counts like all else.

use Rattle.std.specs.Prelude.{ℕ, Bool, true, false, ◌&&◌, ◌||◌, not, List, [], ◌∷◌, Option, Some, None}
use Rattle.ada_deeds.specs.Follows.{path_follows, record_path_follows, expression_follows, condition_follows, actuals_follow}
use Rattle.ada_deeds.specs.declared.deed.Callee.{Callee}
use Rattle.ada_deeds.specs.declared.deed.Callee.TheVariants as callee
use Rattle.ada_deeds.specs.declared.deed.Deed.{Deed}
use Rattle.ada_deeds.specs.declared.deed.Deed.TheVariants as deed
use Rattle.ada_deeds.specs.declared.deed.Operation.{Operation}
use Rattle.ada_deeds.specs.declared.deed.Operation.TheVariants.{Initialize, Adjust, Finalize}
use Rattle.ada_effects.specs.Effects.{path_raises, record_path_raises, expression_raises, condition_raises, actuals_raise}
use Rattle.ada_program.specs.declared.program.Exception.{Exception}
use Rattle.ada_program.specs.declared.program.Exception.TheVariants.{ConstraintError, StorageError, EndError}
use Rattle.ada_program.specs.declared.program.Finalization.{Finalization}
use Rattle.ada_program.specs.declared.program.Operations.{Operations}
use Rattle.ada_program.specs.declared.program.PartKind.{PartKind}
use Rattle.ada_program.specs.declared.program.PartKind.TheVariants as part
use Rattle.ada_program.specs.declared.program.ProcedureNo.{ProcedureNo}
use Rattle.ada_program.specs.Form.{ActualForm, PathForm, RecordPathForm, ExpressionForm, ItemForm, null_item, item_of_path, item_of_value, item_of_record, RightForm, nothing, value_of, allocates, allocates_default, computes, DeclarationForm, creates_pool, collects, declares, declares_record, StmtForm, skips, assigns, assigns_record, frees, gets, writes, writes_text, chooses, repeats, counts, exits, calls, returns, raises, encloses, StmtsForm, no_stmts, a_stmt, BranchesForm, otherwise, a_branch, HandlersForm, no_handlers, a_handler}
use Rattle.ada_program.specs.Handling.{is_same, is_taken}
use Rattle.ada_program.specs.ProgramForm.{PartForm, TypeForm, record_of, access_to, object_of, VariableForm, BodyForm}
use Rattle.ada_program.specs.WellFormed.{designated_type, is_this, object_in, path_access}
use Rattle.std.specs.List.{slice_get}

-- What a form does itself.

-- Is the deed that this exception comes out?
abbrev pub is_raising : Exception → Deed → Bool
is_raising e (deed.Raises f) = is_same e f
is_raising e (deed.Frees t) = false
is_raising e (deed.Follows t) = false
is_raising e deed.Allocates = false
is_raising e deed.Calls = false

-- An evaluation may raise Constraint_Error (11.5), and follows access values (4.1).
abbrev pub evaluation_does : Deed → (fails : Bool) → (follows : (access : ℕ) → Bool) → Bool
evaluation_does (deed.Raises e) fails follows = is_same ConstraintError e && fails
evaluation_does (deed.Frees t) fails follows = false
evaluation_does (deed.Follows t) fails follows = follows t.0
evaluation_does deed.Allocates fails follows = false
evaluation_does deed.Calls fails follows = false

-- That of a path (4.1).
abbrev pub path_does : List TypeForm → List VariableForm → Deed → PathForm → Bool
path_does types variables d path = evaluation_does d (path_raises path) (λ t. path_follows types variables t path)

-- That of a path to a record (4.1).
abbrev pub record_path_does : List TypeForm → List VariableForm → Deed → RecordPathForm → Bool
record_path_does types variables d p = evaluation_does d (record_path_raises p) (λ t. record_path_follows types variables t p)

-- That of an expression (4.4).
abbrev pub expression_does : List TypeForm → List VariableForm → Deed → ExpressionForm → Bool
expression_does types variables d e = evaluation_does d (expression_raises e) (λ t. expression_follows types variables t e)

-- That of a condition, where there is one.
abbrev pub condition_does : List TypeForm → List VariableForm → Deed → Option ExpressionForm → Bool
condition_does types variables d e = evaluation_does d (condition_raises e) (λ t. condition_follows types variables t e)

-- That of actual parameters (6.4.1).
abbrev pub actuals_do : List TypeForm → List VariableForm → Deed → List ActualForm → Bool
actuals_do types variables d actuals = evaluation_does d (actuals_raise actuals) (λ t. actuals_follow types variables t actuals)

-- An allocator creates an object, and may want storage (4.8, 11.1).
abbrev pub allocation_does : Deed → Bool
allocation_does (deed.Raises e) = is_same StorageError e
allocation_does (deed.Frees t) = false
allocation_does (deed.Follows t) = false
allocation_does deed.Allocates = true
allocation_does deed.Calls = false

-- A Free frees an object of the access type of what it is given (13.11.2).
abbrev pub freeing_does : Deed → (access : Option ℕ) → Bool
freeing_does (deed.Raises e) access = false
freeing_does (deed.Frees t) access = is_this t.0 access
freeing_does (deed.Follows t) access = false
freeing_does deed.Allocates access = false
freeing_does deed.Calls access = false

-- Does what statements do leave them by their handlers (11.4)? An exception that one of these takes does not.
abbrev pub is_left : HandlersForm → Deed → Bool
is_left hs (deed.Raises e) = not (is_taken hs e)
is_left hs (deed.Frees t) = true
is_left hs (deed.Follows t) = true
is_left hs deed.Allocates = true
is_left hs deed.Calls = true

-- What calls do.

-- Does a procedure, by its number (6.4)?
abbrev pub procedure_does : (known : Callee → Bool) → (procedure : ℕ) → Bool
procedure_does known procedure = known (callee.Procedure (record { 0 = procedure }))

-- Does an operation of the controlled parts of an object of this record type, where there is one (7.6)?
abbrev pub parts_do : (known : Callee → Bool) → Operation → (record_type : Option ℕ) → Bool
parts_do known operation None = false
parts_do known operation (Some t) = known (callee.Parts operation (record { 0 = t }))

-- An object is created without an initial value: its parts are initialized, and where one of these raises an exception, those before it are
-- finalized (7.6).
abbrev pub creation_does : (known : Callee → Bool) → (record_type : Option ℕ) → Bool
creation_does known t = parts_do known Initialize t || parts_do known Finalize t

-- A value is assigned to an object: the old one is finalized, and the new one is adjusted (7.6).
abbrev pub assignment_does : (known : Callee → Bool) → (record_type : ℕ) → Bool
assignment_does known t = parts_do known Adjust (Some t) || parts_do known Finalize (Some t)

-- The type that an access type designates, where there is one (3.10).
abbrev pub designated_by : List TypeForm → (access : Option ℕ) → Option ℕ
designated_by types None = None
designated_by types (Some access) = designated_type types access

-- What forms do.

-- An item of an aggregate: a record is copied, and the copy is adjusted (4.3.1, 7.6).
abbrev pub item_does : List TypeForm → List VariableForm → (known : Callee → Bool) → Deed → ItemForm → Bool
item_does types variables known d null_item = false
item_does types variables known d (item_of_path path) = path_does types variables d path
item_does types variables known d (item_of_value e) = expression_does types variables d e
item_does types variables known d (item_of_record p) = record_path_does types variables d p || parts_do known Adjust (Some p.record_type)

-- Items.
abbrev pub items_do : List TypeForm → List VariableForm → (known : Callee → Bool) → Deed → List ItemForm → Bool
items_do types variables known d [] = false
items_do types variables known d (i ∷ is) = item_does types variables known d i || items_do types variables known d is

-- What is assigned: an allocator creates an object (4.8). One with items has no controlled parts in any source, and then nothing is called.
abbrev pub right_does : List TypeForm → List VariableForm → (known : Callee → Bool) → Deed → RightForm → Bool
right_does types variables known d nothing = false
right_does types variables known d (value_of path) = path_does types variables d path
right_does types variables known d (allocates access items) =
    (allocation_does d || items_do types variables known d items) || creation_does known (designated_type types access)
right_does types variables known d (allocates_default access) = allocation_does d || creation_does known (designated_type types access)
right_does types variables known d (computes e) = expression_does types variables d e

-- What a record object is given at first: where nothing is given, it is created without an initial value (3.3.1).
abbrev pub initial_does : List TypeForm → List VariableForm → (known : Callee → Bool) → Deed → (record_type : Option ℕ) → Option (List ItemForm) → Bool
initial_does types variables known d t None = creation_does known t
initial_does types variables known d t (Some items) = items_do types variables known d items

-- A declaration (3.11).
abbrev pub declaration_does : List TypeForm → List VariableForm → (known : Callee → Bool) → Deed → DeclarationForm → Bool
declaration_does types variables known d (creates_pool pool) = false
declaration_does types variables known d (collects access) = false
declaration_does types variables known d (declares x right) = right_does types variables known d right
declaration_does types variables known d (declares_record x object initial) =
    initial_does types variables known d (object_in (slice_get types object)) initial

-- Declarations.
abbrev pub declarations_do : List TypeForm → List VariableForm → (known : Callee → Bool) → Deed → List DeclarationForm → Bool
declarations_do types variables known d [] = false
declarations_do types variables known d (c ∷ cs) = declaration_does types variables known d c || declarations_do types variables known d cs

-- Where a master is left, the object that a declaration created is finalized, or those of the collection (7.6.1).
abbrev pub ending_does : List TypeForm → (known : Callee → Bool) → DeclarationForm → Bool
ending_does types known (creates_pool pool) = false
ending_does types known (collects access) = parts_do known Finalize (designated_type types access)
ending_does types known (declares x right) = false
ending_does types known (declares_record x object initial) = parts_do known Finalize (object_in (slice_get types object))

-- Where a master with these declarations is left (7.6.1).
abbrev pub leaving_does : List TypeForm → (known : Callee → Bool) → List DeclarationForm → Bool
leaving_does types known [] = false
leaving_does types known (c ∷ cs) = ending_does types known c || leaving_does types known cs

abbrev mutual
  -- A statement (5.1). Handlers take what they name from the statements of their own block alone, and nothing from its leaving (11.4).
  pub stmt_does : List TypeForm → List VariableForm → (known : Callee → Bool) → Deed → StmtForm → Bool
  stmt_does types variables known d skips = false
  stmt_does types variables known d (assigns target right) = path_does types variables d target || right_does types variables known d right
  stmt_does types variables known d (assigns_record target items) =
      record_path_does types variables d target || items_do types variables known d items || assignment_does known target.record_type
  stmt_does types variables known d (frees access path) =
      path_does types variables d path || freeing_does d (path_access types variables path)
      || parts_do known Finalize (designated_by types (path_access types variables path))
  stmt_does types variables known d (gets target) = is_raising EndError d || path_does types variables d target
  stmt_does types variables known d (writes e) = expression_does types variables d e
  stmt_does types variables known d (writes_text text) = false
  stmt_does types variables known d (chooses branches) = branches_do types variables known d branches
  stmt_does types variables known d (repeats condition fs end_spot) =
      condition_does types variables d condition || stmts_do types variables known d fs
  stmt_does types variables known d (counts x low high fs end_spot) =
      expression_does types variables d low || expression_does types variables d high || stmts_do types variables known d fs
  stmt_does types variables known d (exits condition spot) = condition_does types variables d condition
  stmt_does types variables known d (calls procedure actuals) = actuals_do types variables d actuals || procedure_does known procedure
  stmt_does types variables known d (returns spot) = false
  stmt_does types variables known d (raises e) = is_raising e d
  stmt_does types variables known d (encloses ds fs hs) =
      declarations_do types variables known d ds || (is_left hs d && stmts_do types variables known d fs)
      || handlers_do types variables known d hs || leaving_does types known ds

  -- Statements.
  pub stmts_do : List TypeForm → List VariableForm → (known : Callee → Bool) → Deed → StmtsForm → Bool
  stmts_do types variables known d no_stmts = false
  stmts_do types variables known d (a_stmt f fs) = stmt_does types variables known d f || stmts_do types variables known d fs

  -- Branches (5.3).
  pub branches_do : List TypeForm → List VariableForm → (known : Callee → Bool) → Deed → BranchesForm → Bool
  branches_do types variables known d (otherwise fs) = stmts_do types variables known d fs
  branches_do types variables known d (a_branch e fs branches) =
      expression_does types variables d e || stmts_do types variables known d fs || branches_do types variables known d branches

  -- The statements of handlers (11.2).
  pub handlers_do : List TypeForm → List VariableForm → (known : Callee → Bool) → Deed → HandlersForm → Bool
  handlers_do types variables known d no_handlers = false
  handlers_do types variables known d (a_handler choices fs hs) = stmts_do types variables known d fs || handlers_do types variables known d hs

-- A body (6.3): like a block, whose declarations and leaving its handlers do not see (11.4).
abbrev pub body_does : List TypeForm → (known : Callee → Bool) → Deed → BodyForm → Bool
body_does types known d b =
    declarations_do types b.variables known d b.declarations || (is_left b.handlers d && stmts_do types b.variables known d b.statements)
    || handlers_do types b.variables known d b.handlers || leaving_does types known b.declarations

-- The operations of the controlled parts of a record (7.6).

-- The procedure that overrides an operation, where one does.
abbrev pub overriding : Operation → Operations → Option ProcedureNo
overriding Initialize operations = operations.initialize
overriding Adjust operations = operations.adjust
overriding Finalize operations = operations.finalize

-- Does that procedure? An operation that is inherited does nothing.
abbrev pub overriding_does : (known : Callee → Bool) → Option ProcedureNo → Bool
overriding_does known None = false
overriding_does known (Some procedure) = procedure_does known procedure.0

-- Does the operation of the record itself, if its objects have controlled parts?
abbrev pub own_does : (known : Callee → Bool) → Operation → Option Finalization → Bool
own_does known operation None = false
own_does known operation (Some f) = overriding_does known (overriding operation f.operations)

-- Does that of a declared component's parts?
abbrev pub part_does : (known : Callee → Bool) → Operation → PartKind → Bool
part_does known operation (part.Elementary kind) = false
part_does known operation (part.Record t) = parts_do known operation (Some t.0)
part_does known operation part.Parent = false

-- Does one of the components'?
abbrev pub components_do : (known : Callee → Bool) → Operation → List PartForm → Bool
components_do known operation [] = false
components_do known operation (p ∷ ps) = part_does known operation p.kind || components_do known operation ps

-- Does an operation of the controlled parts of an object of a record type: its own one, or that of a component?
abbrev pub type_does : (known : Callee → Bool) → Operation → TypeForm → Bool
type_does known operation (record_of name parts components finalization) =
    own_does known operation finalization || components_do known operation parts
type_does known operation (access_to name designated pool) = false
type_does known operation (object_of record_type) = false
