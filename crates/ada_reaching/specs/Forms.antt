-- Bodies that shun some access types (3.10): they follow no value of one (4.1) and free none (13.11.2), and call procedures alone whose bodies do so. They
-- may move such values, store them, compare them with null, pass them, and copy them with records that have no controlled parts (7.6), or that may be assigned
-- to as wholes though they have some. They create no collection
-- and no pool; objects with controlled parts they may free of some access types, and allocate of some by default, and record objects they may declare of some
-- types by default, and with an initial value without such parts.

use Rattle.std.specs.Prelude.{ℕ, Bool, true, false, not, ◌&&◌, ◌||◌, List, [], ◌∷◌, map, Option, Some, None, is_some}
use Rattle.std.specs.List.{list_all}
use Rattle.ada_program.specs.Form.{PathForm, RecordPathForm, ActualForm, in_value, in_null, in_access, in_record, in_out_path, in_out_access, in_out_component, in_out_record, ExpressionForm, integer, boolean, reads, is_null, applied_to, chained, LinksForm, no_more_links, a_link, ItemForm, null_item, item_of_path, item_of_value, item_of_record, RightForm, nothing, value_of, allocates, allocates_default, computes, DeclarationForm, creates_pool, collects, declares, declares_record, StmtForm, skips, assigns, assigns_record, frees, gets, writes, writes_text, chooses, repeats, counts, exits, calls, returns, raises, encloses, StmtsForm, no_stmts, a_stmt, BranchesForm, otherwise, a_branch, HandlersForm, no_handlers, a_handler}
use Rattle.ada_program.specs.declared.program.VariableKind.{VariableKind}
use Rattle.ada_program.specs.declared.program.VariableKind.TheVariants as variable
use Rattle.ada_program.specs.ProgramForm.{TypeForm, VariableForm, BodyForm, type_form}
use Rattle.ada_program.specs.WellFormed.{finalization_of, object_named, path_kind, selected_kind, variable_kind}
use Rattle.ada_quiet.specs.Bare.{has_bare_objects}
use Rattle.ada_quiet.specs.Idle.{holds_parts}
use Rattle.ada_reaching.specs.Apart.{Apart}

-- What is held may be followed, and freed: it is no value of an access type that is shunned.
abbrev pub may_follow : (shuns : ℕ → Bool) → Option VariableKind → Bool
may_follow shuns None = true
may_follow shuns (Some variable.Integer) = true
may_follow shuns (Some variable.Boolean) = true
may_follow shuns (Some (variable.Access access)) = not (shuns access.0)
may_follow shuns (Some (variable.Record object)) = true

-- An object that such a value names may be freed (13.11.2).
abbrev pub may_end : Apart → Option VariableKind → Bool
may_end apart None = true
may_end apart (Some variable.Integer) = true
may_end apart (Some variable.Boolean) = true
may_end apart (Some (variable.Access access)) = apart.ends access.0
may_end apart (Some (variable.Record object)) = true

-- One with controlled parts may be assigned to: it may end, and get its value from another one (7.6).
abbrev pub may_replace : Apart → (record_type : ℕ) → Bool
may_replace apart t = apart.assigns t && apart.copies t

-- A record may be assigned to as a whole (5.2): it has no controlled parts, or is of a type with some of which this may be.
abbrev pub may_assign : List TypeForm → Apart → (record_type : ℕ) → Bool
may_assign types apart t = not (is_some (finalization_of types t)) || may_replace apart t

-- An object of an access type may be allocated by default (4.8): it has no controlled parts, or those with some may be.
abbrev pub may_start : List TypeForm → Apart → (access : ℕ) → Bool
may_start types apart access = has_bare_objects types access || apart.starts access

-- A record object may be declared by default (3.3.1), which is initialized then, and finalized where its master is left, or where an exception comes out of its
-- initialization (7.6.1).
abbrev pub may_declare : Apart → (object_type : ℕ) → Bool
may_declare apart t = apart.starts t && apart.ends t

-- If there is a record type, its records may get their values from others, also those with controlled parts.
abbrev pub may_copy_named : Apart → (record_type : Option ℕ) → Bool
may_copy_named apart None = false
may_copy_named apart (Some t) = apart.copies t

-- A record object may be declared with an initial value (3.3.1): it has no controlled parts, or its type is one whose records may get their values from others
-- (7.6), and it is finalized where its master is left (7.6.1).
abbrev pub may_fill : List TypeForm → Apart → (object_type : ℕ) → Bool
may_fill types apart t = not (holds_parts types t) || (apart.ends t && may_copy_named apart (object_named types (Some t)))

-- A record object may have been declared by default, or with an initial value: it may be finalized where its master is left, or has no controlled parts (7.6).
abbrev pub may_own : Apart → (object_type : ℕ) → Bool
may_own apart t = apart.ends t || not (holds_parts (map type_form apart.definitions) t)

-- Selectors follow no value that is shunned: each follows the value in front of it, and the last value is not followed (4.1.3).
abbrev pub selectors_shun : List TypeForm → (shuns : ℕ → Bool) → Option VariableKind → (selectors : List ℕ) → Bool
selectors_shun types shuns kind [] = true
selectors_shun types shuns kind (c ∷ cs) = may_follow shuns kind && selectors_shun types shuns (selected_kind types kind c) cs

-- In a body with these variables, which calls procedures of these alone.
module _ (types : List TypeForm) (shuns : ℕ → Bool) (apart : Apart) (variables : List VariableForm) where
  -- A path follows no value that is shunned (4.1).
  abbrev pub path_shuns : PathForm → Bool
  path_shuns path = selectors_shun types shuns (variable_kind variables path.root) path.selectors

  -- The way to a record does not, and it follows the access value to the record's object, too (4.1).
  abbrev pub record_path_shuns : RecordPathForm → Bool
  record_path_shuns q = path_shuns q.object && may_follow shuns (path_kind types variables q.object)

  abbrev mutual
    -- The paths of an expression do not (4.4).
    pub expression_shuns : ExpressionForm → Bool
    expression_shuns (integer i) = true
    expression_shuns (boolean b) = true
    expression_shuns (reads path) = path_shuns path
    expression_shuns (is_null equal path) = path_shuns path
    expression_shuns (applied_to operator e) = expression_shuns e
    expression_shuns (chained e links) = expression_shuns e && links_shun links

    -- Those of right operands do not.
    pub links_shun : LinksForm → Bool
    links_shun no_more_links = true
    links_shun (a_link operator e links) = expression_shuns e && links_shun links

  -- Those of a condition do not, where there is one.
  abbrev pub condition_shuns : Option ExpressionForm → Bool
  condition_shuns None = true
  condition_shuns (Some e) = expression_shuns e

  -- Those of an item do not, and neither does the way to a record that is copied (4.3.1).
  abbrev pub item_shuns : ItemForm → Bool
  item_shuns null_item = true
  item_shuns (item_of_path path) = path_shuns path
  item_shuns (item_of_value e) = expression_shuns e
  item_shuns (item_of_record q) = record_path_shuns q

  -- Those of what is assigned do not; a new object has no controlled parts, or is initialized by default, and is of an access type of which some may be
  -- allocated (5.2, 4.8).
  abbrev pub right_shuns : RightForm → Bool
  right_shuns nothing = true
  right_shuns (value_of path) = path_shuns path
  right_shuns (allocates access items) = has_bare_objects types access && list_all item_shuns items
  right_shuns (allocates_default access) = may_start types apart access
  right_shuns (computes e) = expression_shuns e

  -- Those of an actual parameter do not (6.4.1).
  abbrev pub actual_shuns : ActualForm → Bool
  actual_shuns (in_value e) = expression_shuns e
  actual_shuns in_null = true
  actual_shuns (in_access path) = path_shuns path
  actual_shuns (in_record q) = record_path_shuns q
  actual_shuns (in_out_path path) = path_shuns path
  actual_shuns (in_out_access path) = path_shuns path
  actual_shuns (in_out_component path) = path_shuns path
  actual_shuns (in_out_record q) = record_path_shuns q

  -- A declaration is that of a variable, of whatever type (3.3.1); of a record object by default, of a type of which some may be declared; or of one
  -- that may get an initial value, whose items follow no such value (4.3.1, 7.6).
  abbrev pub declaration_shuns : DeclarationForm → Bool
  declaration_shuns (creates_pool p) = false
  declaration_shuns (collects access) = false
  declaration_shuns (declares x right) = right_shuns right
  declaration_shuns (declares_record x t None) = may_declare apart t
  declaration_shuns (declares_record x t (Some items)) = may_fill types apart t && list_all item_shuns items

  -- So is each of these.
  abbrev pub declarations_shun : List DeclarationForm → Bool
  declarations_shun ds = list_all declaration_shuns ds

  abbrev mutual
    -- The paths of a statement follow no value that is shunned, and so it is inside it (5.1). No such value is freed, nor one of an access type whose objects
    -- may not be freed (13.11.2), and a record with controlled parts is assigned to as a whole only where it is of a type of which this may be (5.2, 7.6).
    pub statement_shuns : StmtForm → Bool
    statement_shuns skips = true
    statement_shuns (assigns target right) = path_shuns target && right_shuns right
    statement_shuns (assigns_record target items) =
        record_path_shuns target && list_all item_shuns items && may_assign types apart target.record_type
    statement_shuns (frees access path) = path_shuns path && may_follow shuns (path_kind types variables path) && may_end apart (path_kind types variables path)
    statement_shuns (gets target) = path_shuns target
    statement_shuns (writes e) = expression_shuns e
    statement_shuns (writes_text text) = true
    statement_shuns (chooses branches) = branches_shun branches
    statement_shuns (repeats condition fs spot) = condition_shuns condition && statements_shun fs
    statement_shuns (counts x low high fs spot) = expression_shuns low && expression_shuns high && statements_shun fs
    statement_shuns (exits condition spot) = condition_shuns condition
    statement_shuns (calls procedure actuals) = list_all actual_shuns actuals && apart.calls procedure
    statement_shuns (returns spot) = true
    statement_shuns (raises e) = true
    statement_shuns (encloses ds fs hs) = declarations_shun ds && statements_shun fs && handlers_shun hs

    -- So it is with statements.
    pub statements_shun : StmtsForm → Bool
    statements_shun no_stmts = true
    statements_shun (a_stmt f fs) = statement_shuns f && statements_shun fs

    -- So it is with branches (5.3).
    pub branches_shun : BranchesForm → Bool
    branches_shun (otherwise fs) = statements_shun fs
    branches_shun (a_branch e fs branches) = expression_shuns e && statements_shun fs && branches_shun branches

    -- So it is with handlers (11.2).
    pub handlers_shun : HandlersForm → Bool
    handlers_shun no_handlers = true
    handlers_shun (a_handler choices fs hs) = statements_shun fs && handlers_shun hs

-- All of a body does.
abbrev pub body_shuns : List TypeForm → (shuns : ℕ → Bool) → Apart → BodyForm → Bool
body_shuns types shuns apart b =
    declarations_shun types shuns apart b.variables b.declarations && statements_shun types shuns apart b.variables b.statements
    && handlers_shun types shuns apart b.variables b.handlers
