-- Which exceptions a form may raise (11.3, 11.6), and of which access types it may free objects (13.11.2): a sum over its parts, by its text alone. What is
-- behind a jump counts like all else.

use Rattle.std.specs.Prelude.{ℕ, Bool, true, false, ◌&&◌, ◌||◌, not, List, [], ◌∷◌, ◌++◌, Option, Some, None}
use Rattle.std.specs.List.{list_any, slice_get}
use Rattle.ada_values.specs.declared.operator.UnaryOperator.{UnaryOperator}
use Rattle.ada_values.specs.declared.operator.UnaryOperator.TheVariants as unary
use Rattle.ada_values.specs.declared.operator.BinaryOperator.{BinaryOperator}
use Rattle.ada_values.specs.declared.operator.BinaryOperator.TheVariants as binary
use Rattle.ada_program.specs.declared.program.Exception.{Exception}
use Rattle.ada_program.specs.declared.program.Exception.TheVariants.{ConstraintError, StorageError, EndError}
use Rattle.ada_program.specs.Form.{ActualForm, in_value, in_null, in_access, in_record, in_out_path, in_out_access, in_out_component, in_out_record, PathForm, RecordPathForm, ExpressionForm, integer, boolean, reads, is_null, applied_to, chained, LinksForm, no_more_links, a_link, ItemForm, null_item, item_of_path, item_of_value, item_of_record, RightForm, nothing, value_of, allocates, allocates_default, computes, DeclarationForm, creates_pool, collects, declares, declares_record, StmtForm, skips, assigns, assigns_record, frees, gets, writes, writes_text, chooses, repeats, counts, exits, calls, returns, raises, encloses, StmtsForm, no_stmts, a_stmt, BranchesForm, otherwise, a_branch, HandlersForm, no_handlers, a_handler}
use Rattle.ada_program.specs.Handling.{is_taken}
use Rattle.ada_program.specs.ProgramForm.{TypeForm, VariableForm, BodyForm, ProgramForm}
use Rattle.ada_program.specs.WellFormed.{is_this, path_access}

-- Expressions: they raise Constraint_Error alone.

-- An operator may overflow, or divide by zero (4.5).
abbrev pub unary_raises : UnaryOperator → Bool
unary_raises unary.Minus = true
unary_raises operator = false

-- Whether an operator between operands may raise Constraint_Error (4.5, 11.6).
abbrev pub binary_raises : BinaryOperator → Bool
binary_raises binary.Add = true
binary_raises binary.Subtract = true
binary_raises binary.Multiply = true
binary_raises binary.Divide = true
binary_raises binary.Modulo = true
binary_raises binary.Remainder = true
binary_raises operator = false

-- Does a path with these components behind its variable follow an access value (4.1)? To the first component of a record object nothing is followed.
abbrev pub follows_value : (of_record : Bool) → List ℕ → Bool
follows_value of_record [] = false
follows_value false (c ∷ cs) = true
follows_value true (c ∷ []) = false
follows_value true (c ∷ d ∷ cs) = true

-- A path that follows an access value may find null there (4.1).
abbrev pub path_raises : PathForm → Bool
path_raises path = follows_value path.of_record path.selectors

-- Is the object in which a record lies that of an access value (4.1), and no record object?
abbrev pub is_behind_value : (of_record : Bool) → List ℕ → Bool
is_behind_value false [] = true
is_behind_value true [] = false
is_behind_value of_record (c ∷ cs) = true

-- A path to a record may find null where it follows an access value to its object (4.1).
abbrev pub record_path_raises : RecordPathForm → Bool
record_path_raises p = is_behind_value p.object.of_record p.object.selectors

abbrev mutual
  -- Whether an expression may raise an exception.
  pub expression_raises : ExpressionForm → Bool
  expression_raises (integer value) = false
  expression_raises (boolean value) = false
  expression_raises (reads path) = path_raises path
  expression_raises (is_null equal path) = path_raises path
  expression_raises (applied_to operator e) = unary_raises operator || expression_raises e
  expression_raises (chained e links) = expression_raises e || links_raise links

  -- Whether operators with their right operands may.
  pub links_raise : LinksForm → Bool
  links_raise no_more_links = false
  links_raise (a_link operator e links) = binary_raises operator || expression_raises e || links_raise links

-- Whether an actual parameter may, where its value is evaluated (6.4.1).
abbrev pub actual_raises : ActualForm → Bool
actual_raises (in_value e) = expression_raises e
actual_raises in_null = false
actual_raises (in_access path) = path_raises path
actual_raises (in_record p) = record_path_raises p
actual_raises (in_out_path path) = path_raises path
actual_raises (in_out_access path) = path_raises path
actual_raises (in_out_component path) = path_raises path
actual_raises (in_out_record p) = record_path_raises p

-- Whether one of these actual parameters may.
abbrev pub actuals_raise : List ActualForm → Bool
actuals_raise [] = false
actuals_raise (a ∷ rest) = actual_raises a || actuals_raise rest

-- Whether the items of an allocator may.
abbrev pub item_raises : ItemForm → Bool
item_raises null_item = false
item_raises (item_of_path path) = path_raises path
item_raises (item_of_value e) = expression_raises e
item_raises (item_of_record p) = record_path_raises p

-- Whether one of these items may raise Constraint_Error.
abbrev pub items_raise : List ItemForm → Bool
items_raise [] = false
items_raise (i ∷ is) = item_raises i || items_raise is

-- Whether a condition may, where there is one.
abbrev pub condition_raises : Option ExpressionForm → Bool
condition_raises None = false
condition_raises (Some e) = expression_raises e

-- Of these exceptions, those that no handler takes.
abbrev pub untaken : HandlersForm → (Exception → Bool) → Exception → Bool
untaken hs among e = among e && not (is_taken hs e)

-- What is known of the calls of a procedure (6.4), by the text of its body: whether they may raise one of some exceptions, and of an access type whether they
-- may free objects of it (13.11.2).
pub record Effect : Type 0 where
  pub raises : (among : Exception → Bool) → Bool
  pub frees : (access : ℕ) → Bool

-- What the operations of controlled types may do that are called for all controlled parts of an object (7.6), by the number of a type: that of the record, the
-- access type of an allocated object, or the type by which a record object is known.
pub record Implicit : Type 0 where
  -- where an object is created without an initial value, by Initialize, and by Finalize behind one that raises an exception: which exceptions may come out, and
  -- whether objects of an access type may be freed
  pub start_raises : (type_number : ℕ) → List Exception
  pub start_frees : (type_number access : ℕ) → Bool
  -- where a record is copied, by Adjust: whether objects of an access type may be freed
  pub adjust_frees : (type_number access : ℕ) → Bool
  -- where an object ends, or gets another value, by Finalize: whether objects of an access type may be freed, and whether they may be freed or followed (4.1)
  pub end_frees : (type_number access : ℕ) → Bool
  pub end_reaches : (type_number access : ℕ) → Bool

-- What is known of calls: of the procedures by their numbers, and of the operations of controlled types.
pub record Effects : Type 0 where
  pub calls : List Effect
  pub implicit : Implicit

-- Operations of controlled types that raise, free and follow nothing.
abbrev pub no_implicit : Implicit
no_implicit = record {
  start_raises = λ u. [];
  start_frees = λ u t. false;
  adjust_frees = λ u t. false;
  end_frees = λ u t. false;
  end_reaches = λ u t. false;
}

-- Nothing is called.
abbrev pub no_calls : Effects
no_calls = record { calls = []; implicit = no_implicit }

-- Statements, by the exceptions that are asked for.

-- What is assigned: a new object may want storage.
abbrev pub right_raises : (Exception → Bool) → RightForm → Bool
right_raises among nothing = false
right_raises among (value_of path) = among ConstraintError && path_raises path
right_raises among (allocates access items) = among StorageError || (among ConstraintError && items_raise items)
right_raises among (allocates_default access) = among StorageError
right_raises among (computes e) = among ConstraintError && expression_raises e

-- A new object is initialized (4.8, 7.6). One with items has no controlled parts in any source, and then nothing is called.
abbrev pub right_starts : Implicit → (Exception → Bool) → RightForm → Bool
right_starts implicit among nothing = false
right_starts implicit among (value_of path) = false
right_starts implicit among (allocates access items) = list_any among (implicit.start_raises access)
right_starts implicit among (allocates_default access) = list_any among (implicit.start_raises access)
right_starts implicit among (computes e) = false

-- So is a record object without an initial value (3.3.1, 7.6).
abbrev pub initial_starts : Implicit → (Exception → Bool) → (object : ℕ) → Option (List ItemForm) → Bool
initial_starts implicit among object None = list_any among (implicit.start_raises object)
initial_starts implicit among object (Some items) = false

-- What a record object is given at first may raise Constraint_Error.
abbrev pub initial_raises : Option (List ItemForm) → Bool
initial_raises None = false
initial_raises (Some items) = items_raise items

-- Whether a declaration may raise one of these exceptions: its initial value may, or its initialization. A record object wants no storage of a pool.
abbrev pub declaration_raises : Implicit → (Exception → Bool) → DeclarationForm → Bool
declaration_raises implicit among (creates_pool pool) = false
declaration_raises implicit among (collects access) = false
declaration_raises implicit among (declares x right) = right_raises among right || right_starts implicit among right
declaration_raises implicit among (declares_record x object initial) =
    (among ConstraintError && initial_raises initial) || initial_starts implicit among object initial

-- Whether one of these declarations may raise one of these exceptions.
abbrev pub declarations_raise : Implicit → (Exception → Bool) → List DeclarationForm → Bool
declarations_raise implicit among [] = false
declarations_raise implicit among (d ∷ ds) = declaration_raises implicit among d || declarations_raise implicit among ds

-- Whether a call may raise one of these exceptions: that of no procedure raises none.
abbrev pub call_raises : Option Effect → (Exception → Bool) → Bool
call_raises None among = false
call_raises (Some effect) among = effect.raises among

abbrev mutual
  -- May a statement raise one of these exceptions? Handlers take what they name from the statements of their own block alone (11.4).
  pub stmt_raises : Effects → (Exception → Bool) → StmtForm → Bool
  stmt_raises effects among skips = false
  stmt_raises effects among (assigns target right) =
      ((among ConstraintError && path_raises target) || right_raises among right) || right_starts effects.implicit among right
  stmt_raises effects among (assigns_record target items) = among ConstraintError && (record_path_raises target || items_raise items)
  stmt_raises effects among (frees access path) = among ConstraintError && path_raises path
  stmt_raises effects among (gets target) = among EndError || (among ConstraintError && path_raises target)
  stmt_raises effects among (writes e) = among ConstraintError && expression_raises e
  stmt_raises effects among (writes_text text) = false
  stmt_raises effects among (chooses branches) = branches_raise effects among branches
  stmt_raises effects among (repeats condition fs end_spot) = (among ConstraintError && condition_raises condition) || stmts_raise effects among fs
  stmt_raises effects among (counts x low high fs end_spot) =
      (among ConstraintError && (expression_raises low || expression_raises high)) || stmts_raise effects among fs
  stmt_raises effects among (exits condition spot) = among ConstraintError && condition_raises condition
  stmt_raises effects among (calls procedure actuals) =
      (among ConstraintError && actuals_raise actuals) || call_raises (slice_get effects.calls procedure) among
  stmt_raises effects among (returns spot) = false
  stmt_raises effects among (raises e) = among e
  stmt_raises effects among (encloses ds fs hs) =
      declarations_raise effects.implicit among ds || stmts_raise effects (untaken hs among) fs || handlers_raise effects among hs

  -- May statements?
  pub stmts_raise : Effects → (Exception → Bool) → StmtsForm → Bool
  stmts_raise effects among no_stmts = false
  stmts_raise effects among (a_stmt f fs) = stmt_raises effects among f || stmts_raise effects among fs

  -- May branches?
  pub branches_raise : Effects → (Exception → Bool) → BranchesForm → Bool
  branches_raise effects among (otherwise fs) = stmts_raise effects among fs
  branches_raise effects among (a_branch e fs branches) =
      (among ConstraintError && expression_raises e) || stmts_raise effects among fs || branches_raise effects among branches

  -- May the statements of handlers?
  pub handlers_raise : Effects → (Exception → Bool) → HandlersForm → Bool
  handlers_raise effects among no_handlers = false
  handlers_raise effects among (a_handler choices fs hs) = stmts_raise effects among fs || handlers_raise effects among hs

-- Whether statements may raise an exception that none of their handlers takes.
abbrev pub passes : Effects → StmtsForm → HandlersForm → Bool
passes effects fs hs = stmts_raise effects (λ e. not (is_taken hs e)) fs

-- May a body raise one of these exceptions? Its handlers take what they name from its statements alone (11.4).
abbrev pub body_raises : Effects → BodyForm → (Exception → Bool) → Bool
body_raises effects b among =
    declarations_raise effects.implicit among b.declarations || stmts_raise effects (untaken b.handlers among) b.statements
    || handlers_raise effects among b.handlers

-- Of which access types objects may be freed (13.11.2).

-- May a call free an object of an access type? That of no procedure frees none.
abbrev pub call_frees : Option Effect → (access : ℕ) → Bool
call_frees None t = false
call_frees (Some effect) t = effect.frees t

-- May the operations free one that are called where something is assigned: a new object without items is initialized (4.8, 7.6)?
abbrev pub right_frees : Implicit → (access : ℕ) → RightForm → Bool
right_frees implicit t nothing = false
right_frees implicit t (value_of path) = false
right_frees implicit t (allocates access items) = false
right_frees implicit t (allocates_default access) = implicit.start_frees access t
right_frees implicit t (computes e) = false

-- Those where a record object is declared: it is initialized, or its initial value is adjusted (3.3.1, 7.6).
abbrev pub initial_frees : Implicit → (access object : ℕ) → Option (List ItemForm) → Bool
initial_frees implicit t object None = implicit.start_frees object t
initial_frees implicit t object (Some items) = implicit.adjust_frees object t

-- Those where a record gets another value: it is finalized, and then adjusted (5.2, 7.6).
abbrev pub assignment_frees : Implicit → (access record_type : ℕ) → Bool
assignment_frees implicit t u = implicit.end_frees u t || implicit.adjust_frees u t

-- Those where an object of an access type ends, if there is such a type (7.6.1, 13.11.2).
abbrev pub ending_frees : Implicit → (access : ℕ) → (ended : Option ℕ) → Bool
ending_frees implicit t None = false
ending_frees implicit t (Some u) = implicit.end_frees u t

-- Those where the objects of types end, as at the leaving of a master (7.6.1).
abbrev pub endings_free : Implicit → (types : List ℕ) → (access : ℕ) → Bool
endings_free implicit types t = list_any (λ u. implicit.end_frees u t) types

-- May a declaration free one?
abbrev pub declaration_frees : Implicit → (access : ℕ) → DeclarationForm → Bool
declaration_frees implicit t (creates_pool pool) = false
declaration_frees implicit t (collects access) = false
declaration_frees implicit t (declares x right) = right_frees implicit t right
declaration_frees implicit t (declares_record x object initial) = initial_frees implicit t object initial

-- May declarations?
abbrev pub declarations_free : Implicit → (access : ℕ) → List DeclarationForm → Bool
declarations_free implicit t [] = false
declarations_free implicit t (d ∷ ds) = declaration_frees implicit t d || declarations_free implicit t ds

-- May the end of what a declaration creates: of the objects of a collection, or of a record object (7.6.1)?
abbrev pub passing_frees : Implicit → (access : ℕ) → DeclarationForm → Bool
passing_frees implicit t (creates_pool pool) = false
passing_frees implicit t (collects access) = implicit.end_frees access t
passing_frees implicit t (declares x right) = false
passing_frees implicit t (declares_record x object initial) = implicit.end_frees object t

-- May the leaving of the master that has these declarations?
abbrev pub leaving_frees : Implicit → (access : ℕ) → List DeclarationForm → Bool
leaving_frees implicit t [] = false
leaving_frees implicit t (d ∷ ds) = passing_frees implicit t d || leaving_frees implicit t ds

abbrev mutual
  -- May a statement free an object of an access type? A Free does of the access type of what it is given, a call does what its procedure does, and the
  -- operations that are called implicitly do what is known of them.
  pub stmt_frees : List TypeForm → List VariableForm → Effects → (access : ℕ) → StmtForm → Bool
  stmt_frees types variables effects t skips = false
  stmt_frees types variables effects t (assigns target right) = right_frees effects.implicit t right
  stmt_frees types variables effects t (assigns_record target items) = assignment_frees effects.implicit t target.record_type
  stmt_frees types variables effects t (frees access path) =
      is_this t (path_access types variables path) || ending_frees effects.implicit t (path_access types variables path)
  stmt_frees types variables effects t (gets target) = false
  stmt_frees types variables effects t (writes e) = false
  stmt_frees types variables effects t (writes_text text) = false
  stmt_frees types variables effects t (chooses branches) = branches_free types variables effects t branches
  stmt_frees types variables effects t (repeats condition fs end_spot) = stmts_free types variables effects t fs
  stmt_frees types variables effects t (counts x low high fs end_spot) = stmts_free types variables effects t fs
  stmt_frees types variables effects t (exits condition spot) = false
  stmt_frees types variables effects t (calls procedure actuals) = call_frees (slice_get effects.calls procedure) t
  stmt_frees types variables effects t (returns spot) = false
  stmt_frees types variables effects t (raises e) = false
  stmt_frees types variables effects t (encloses ds fs hs) =
      (stmts_free types variables effects t fs || handlers_free types variables effects t hs)
      || (declarations_free effects.implicit t ds || leaving_frees effects.implicit t ds)

  -- May statements?
  pub stmts_free : List TypeForm → List VariableForm → Effects → (access : ℕ) → StmtsForm → Bool
  stmts_free types variables effects t no_stmts = false
  stmts_free types variables effects t (a_stmt f fs) = stmt_frees types variables effects t f || stmts_free types variables effects t fs

  -- May branches?
  pub branches_free : List TypeForm → List VariableForm → Effects → (access : ℕ) → BranchesForm → Bool
  branches_free types variables effects t (otherwise fs) = stmts_free types variables effects t fs
  branches_free types variables effects t (a_branch e fs branches) =
      stmts_free types variables effects t fs || branches_free types variables effects t branches

  -- May the statements of handlers?
  pub handlers_free : List TypeForm → List VariableForm → Effects → (access : ℕ) → HandlersForm → Bool
  handlers_free types variables effects t no_handlers = false
  handlers_free types variables effects t (a_handler choices fs hs) =
      stmts_free types variables effects t fs || handlers_free types variables effects t hs

-- May a body free an object of an access type?
abbrev pub body_frees : List TypeForm → Effects → BodyForm → (access : ℕ) → Bool
body_frees types effects b t =
    (stmts_free types b.variables effects t b.statements || handlers_free types b.variables effects t b.handlers)
    || (declarations_free effects.implicit t b.declarations || leaving_frees effects.implicit t b.declarations)

-- What is known of the calls of a procedure, by its body.
abbrev pub effect_of : List TypeForm → Effects → BodyForm → Effect
effect_of types effects b = record { raises = body_raises effects b; frees = body_frees types effects b }

-- What is known of calls, with these procedures.
abbrev pub known_of : Implicit → (known : List Effect) → Effects
known_of implicit known = record { calls = known; implicit = implicit }

-- What is known of the calls of these procedures, behind others: each calls those before it.
abbrev pub effects_from : List TypeForm → Implicit → (known : List Effect) → List BodyForm → List Effect
effects_from types implicit known [] = known
effects_from types implicit known (b ∷ bs) = effects_from types implicit (known ++ effect_of types (known_of implicit known) b ∷ []) bs

-- What is known of the calls of the procedures of a program, where this is known of the operations of controlled types.
abbrev pub effects_of : Implicit → ProgramForm → Effects
effects_of implicit p = known_of implicit (effects_from p.types implicit [] p.bodies)
