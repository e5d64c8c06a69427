-- Operations of controlled types that touch no storage (7.6): each does what it does to Integers and Booleans alone.

use Rattle.std.specs.Prelude.{ℕ, zero, suc, Bool, true, false, not, ◌&&◌, List, [], ◌∷◌, drop, Option, Some, None, is_some}
use Rattle.std.specs.List.{list_all, list_any, slice_get}
use Rattle.ada_program.specs.Form.{PathForm, ExpressionForm, integer, boolean, reads, is_null, applied_to, chained, LinksForm, no_more_links, a_link, RightForm, nothing, value_of, allocates, allocates_default, computes, StmtForm, skips, assigns, assigns_record, frees, gets, writes, writes_text, chooses, repeats, counts, exits, calls, returns, raises, encloses, StmtsForm, no_stmts, a_stmt, BranchesForm, otherwise, a_branch, HandlersForm, no_handlers, a_handler, DeclarationForm, creates_pool, collects, declares, declares_record}
use Rattle.ada_program.specs.declared.program.ComponentKind.TheVariants as component
use Rattle.ada_program.specs.declared.program.Finalization.{Finalization}
use Rattle.ada_program.specs.declared.program.PartKind.{PartKind}
use Rattle.ada_program.specs.declared.program.PartKind.TheVariants as part
use Rattle.ada_program.specs.declared.program.ProcedureNo.{ProcedureNo}
use Rattle.ada_program.specs.declared.program.VariableKind.{VariableKind}
use Rattle.ada_program.specs.declared.program.VariableKind.TheVariants as variable
use Rattle.ada_program.specs.ProgramForm.{TypeForm, record_of, access_to, object_of, VariableForm, BodyForm, ProgramForm}
use Rattle.ada_program.specs.WellFormed.{finalization_in, selectors_kind, variable_kind}
use Rattle.ada_effects.specs.Effects.{no_calls, body_raises}

-- A variable holds an Integer or a Boolean (3.5.3, 3.5.4).
abbrev pub is_elementary : VariableKind → Bool
is_elementary variable.Integer = true
is_elementary variable.Boolean = true
is_elementary (variable.Access access) = false
is_elementary (variable.Record object) = false

-- So does what is found, if something is.
abbrev pub holds_elementary : Option VariableKind → Bool
holds_elementary None = false
holds_elementary (Some kind) = is_elementary kind

-- A path to a variable, or to a component of the record for which the first one, the formal parameter, stands (4.1, 6.2).
abbrev pub is_near : (root : ℕ) → (selectors : List ℕ) → Bool
is_near root [] = true
is_near zero (c ∷ []) = true
is_near zero (c ∷ d ∷ cs) = false
is_near (suc x) (c ∷ cs) = false

-- It leads to an Integer or a Boolean.
abbrev pub is_quiet_path : List TypeForm → List VariableForm → PathForm → Bool
is_quiet_path types variables path =
    is_near path.root path.selectors && holds_elementary (selectors_kind types (variable_kind variables path.root) path.selectors)

module _ (types : List TypeForm) (variables : List VariableForm) where
  abbrev mutual
    -- An expression reads Integers and Booleans alone (4.4).
    pub is_quiet_expression : ExpressionForm → Bool
    is_quiet_expression (integer i) = true
    is_quiet_expression (boolean b) = true
    is_quiet_expression (reads path) = is_quiet_path types variables path
    is_quiet_expression (is_null equal path) = false
    is_quiet_expression (applied_to operator e) = is_quiet_expression e
    is_quiet_expression (chained e links) = is_quiet_expression e && are_quiet_links links

    -- So do the right operands of operators.
    pub are_quiet_links : LinksForm → Bool
    are_quiet_links no_more_links = true
    are_quiet_links (a_link operator e links) = is_quiet_expression e && are_quiet_links links

  -- So does a condition, where there is one.
  abbrev pub is_quiet_condition : Option ExpressionForm → Bool
  is_quiet_condition None = true
  is_quiet_condition (Some e) = is_quiet_expression e

  -- What is assigned is an Integer or a Boolean (5.2).
  abbrev pub is_quiet_right : RightForm → Bool
  is_quiet_right nothing = false
  is_quiet_right (value_of path) = false
  is_quiet_right (allocates access items) = false
  is_quiet_right (allocates_default access) = false
  is_quiet_right (computes e) = is_quiet_expression e

  -- A declaration is that of an Integer or a Boolean (3.3.1).
  abbrev pub is_quiet_declaration : DeclarationForm → Bool
  is_quiet_declaration (creates_pool p) = false
  is_quiet_declaration (collects access) = false
  is_quiet_declaration (declares x right) = holds_elementary (variable_kind variables x) && is_quiet_right right
  is_quiet_declaration (declares_record x t initial) = false

  -- So is each of these.
  abbrev pub are_quiet_declarations : List DeclarationForm → Bool
  are_quiet_declarations [] = true
  are_quiet_declarations (d ∷ ds) = is_quiet_declaration d && are_quiet_declarations ds

  abbrev mutual
    -- A statement neither calls, nor allocates, nor frees, and assigns no record (5.1).
    pub is_quiet_stmt : StmtForm → Bool
    is_quiet_stmt skips = true
    is_quiet_stmt (assigns target right) = is_quiet_path types variables target && is_quiet_right right
    is_quiet_stmt (assigns_record target items) = false
    is_quiet_stmt (frees access path) = false
    is_quiet_stmt (gets target) = is_quiet_path types variables target
    is_quiet_stmt (writes e) = is_quiet_expression e
    is_quiet_stmt (writes_text text) = true
    is_quiet_stmt (chooses branches) = are_quiet_branches branches
    is_quiet_stmt (repeats condition fs spot) = is_quiet_condition condition && are_quiet fs
    is_quiet_stmt (counts x low high fs spot) =
        holds_elementary (variable_kind variables x) && is_quiet_expression low && is_quiet_expression high && are_quiet fs
    is_quiet_stmt (exits condition spot) = is_quiet_condition condition
    is_quiet_stmt (calls procedure actuals) = false
    is_quiet_stmt (returns spot) = true
    is_quiet_stmt (raises e) = true
    is_quiet_stmt (encloses ds fs hs) = are_quiet_declarations ds && are_quiet fs && are_quiet_handlers hs

    -- So it is with statements.
    pub are_quiet : StmtsForm → Bool
    are_quiet no_stmts = true
    are_quiet (a_stmt f fs) = is_quiet_stmt f && are_quiet fs

    -- So it is with branches (5.3).
    pub are_quiet_branches : BranchesForm → Bool
    are_quiet_branches (otherwise fs) = are_quiet fs
    are_quiet_branches (a_branch e fs branches) = is_quiet_expression e && are_quiet fs && are_quiet_branches branches

    -- So it is with handlers (11.2).
    pub are_quiet_handlers : HandlersForm → Bool
    are_quiet_handlers no_handlers = true
    are_quiet_handlers (a_handler choices fs hs) = are_quiet fs && are_quiet_handlers hs

-- All variables of the body but its formal parameter are Integers and Booleans, and so are all that it reads and writes; an exception may come out of it.
abbrev pub is_plain_body : List TypeForm → BodyForm → Bool
is_plain_body types b =
    list_all (λ x. is_elementary x.kind) (drop 1 b.variables) && are_quiet_declarations types b.variables b.declarations
    && are_quiet types b.variables b.statements && are_quiet_handlers types b.variables b.handlers

-- A plain body is quiet where it raises nothing. It calls nothing, so nothing is asked of calls.
abbrev pub is_quiet_body : List TypeForm → BodyForm → Bool
is_quiet_body types b = is_plain_body types b && not (body_raises no_calls b (λ e. true))

-- A procedure that was found has a quiet body.
abbrev pub is_quiet_procedure : List TypeForm → Option BodyForm → Bool
is_quiet_procedure types None = true
is_quiet_procedure types (Some b) = is_quiet_body types b

-- What overrides an operation has, if one is overridden (7.6).
abbrev pub is_quiet_operation : ProgramForm → Option ProcedureNo → Bool
is_quiet_operation p None = true
is_quiet_operation p (Some procedure) = is_quiet_procedure p.types (slice_get p.bodies procedure.0)

-- So it is with each operation of a type.
abbrev pub has_quiet_operations : ProgramForm → Option Finalization → Bool
has_quiet_operations p None = true
has_quiet_operations p (Some f) =
    is_quiet_operation p f.operations.initialize && is_quiet_operation p f.operations.adjust && is_quiet_operation p f.operations.finalize

-- A procedure that was found has a plain body.
abbrev pub is_plain_procedure : List TypeForm → Option BodyForm → Bool
is_plain_procedure types None = true
is_plain_procedure types (Some b) = is_plain_body types b

-- What overrides an operation has, if one is overridden (7.6).
abbrev pub is_plain_operation : ProgramForm → Option ProcedureNo → Bool
is_plain_operation p None = true
is_plain_operation p (Some procedure) = is_plain_procedure p.types (slice_get p.bodies procedure.0)

-- A declared component is of an access type (3.8, 3.10).
abbrev pub is_of_access : PartKind → Bool
is_of_access (part.Elementary (component.Integer initial)) = false
is_of_access (part.Elementary (component.Boolean initial)) = false
is_of_access (part.Elementary (component.Access access)) = true
is_of_access (part.Record t) = false
is_of_access part.Parent = false

-- A record type has such a component, declared in it directly.
abbrev pub has_access : Option TypeForm → Bool
has_access None = false
has_access (Some (record_of name parts components finalization)) = list_any (λ c. is_of_access c.kind) parts
has_access (Some (access_to name designated pool)) = false
has_access (Some (object_of record_type)) = false

-- The body that overrides an operation, if one does (7.6).
abbrev pub operation_body : ProgramForm → Option ProcedureNo → Option BodyForm
operation_body p None = None
operation_body p (Some procedure) = slice_get p.bodies procedure.0

-- The body that overrides Adjust of a type, if one does.
abbrev pub adjust_body : ProgramForm → Option Finalization → Option BodyForm
adjust_body p None = None
adjust_body p (Some f) = operation_body p f.operations.adjust

-- A body overrides Adjust of a type with such a component (3.10, 7.6). Behind an Adjust that component of a copy must hold a value of its own, or null:
-- what is quiet leaves it as it is, and both records name one object.
abbrev pub adjusts_access : ProgramForm → TypeForm → Bool
adjusts_access p t = has_access (Some t) && is_some (adjust_body p (finalization_in (Some t)))

-- Whatever overrides an operation of a controlled type is quiet, and no body overrides Adjust of a type with such a component.
abbrev pub operations_are_quiet : ProgramForm → Bool
operations_are_quiet p = list_all (λ t. has_quiet_operations p (finalization_in (Some t)) && not (adjusts_access p t)) p.types
