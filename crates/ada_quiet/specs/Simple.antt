-- Bodies of an Adjust whose components of access types are tracked (7.6): they allocate and free objects without controlled parts, move and follow, call nothing,
-- assign no record with controlled parts, and declare variables alone. Flow judges such a body as one that has a variable for each of
-- those components.

use Rattle.std.specs.Prelude.{Bool, true, false, ◌&&◌, not, List, drop, Option, Some, None, is_some}
use Rattle.std.specs.List.{list_all, slice_get}
use Rattle.ada_program.specs.Form.{RightForm, nothing, value_of, allocates, allocates_default, computes, StmtForm, skips, assigns, assigns_record, frees, gets, writes, writes_text, chooses, repeats, counts, exits, calls, returns, raises, encloses, StmtsForm, no_stmts, a_stmt, BranchesForm, otherwise, a_branch, HandlersForm, no_handlers, a_handler, DeclarationForm, creates_pool, collects, declares, declares_record}
use Rattle.ada_program.specs.declared.program.ProcedureNo.{ProcedureNo}
use Rattle.ada_program.specs.declared.program.VariableKind.{VariableKind}
use Rattle.ada_program.specs.declared.program.VariableKind.TheVariants as variable
use Rattle.ada_program.specs.ProgramForm.{TypeForm, BodyForm, ProgramForm}
use Rattle.ada_program.specs.WellFormed.{finalization_of}
use Rattle.ada_quiet.specs.Apart.{is_bare_item}
use Rattle.ada_quiet.specs.Bare.{has_bare_objects}

-- What is assigned (5.2) is no new object (4.8), or one without controlled parts.
abbrev pub is_simple_right : List TypeForm → RightForm → Bool
is_simple_right types nothing = true
is_simple_right types (value_of path) = true
is_simple_right types (allocates access items) = has_bare_objects types access
is_simple_right types (allocates_default access) = has_bare_objects types access
is_simple_right types (computes e) = true

-- A declaration is that of a variable (3.3.1), and what that is given at first is so: no record object, no collection and no pool is created.
abbrev pub is_simple_declaration : List TypeForm → DeclarationForm → Bool
is_simple_declaration types (creates_pool p) = false
is_simple_declaration types (collects access) = false
is_simple_declaration types (declares x right) = is_simple_right types right
is_simple_declaration types (declares_record x t initial) = false

-- So is each of these.
abbrev pub are_simple_declarations : List TypeForm → List DeclarationForm → Bool
are_simple_declarations types ds = list_all (is_simple_declaration types) ds

module _ (types : List TypeForm) where
  abbrev mutual
    -- A statement assigns to no record with controlled parts as a whole (5.2, 7.6), allocates and frees no object with such parts (4.8, 13.11.2), and calls
    -- nothing (6.4).
    pub is_simple_stmt : StmtForm → Bool
    is_simple_stmt skips = true
    is_simple_stmt (assigns target right) = is_simple_right types right
    is_simple_stmt (assigns_record target items) =
        not (is_some (finalization_of types target.record_type)) && list_all (is_bare_item types) items
    is_simple_stmt (frees access path) = has_bare_objects types access
    is_simple_stmt (gets target) = true
    is_simple_stmt (writes e) = true
    is_simple_stmt (writes_text text) = true
    is_simple_stmt (chooses branches) = are_simple_branches branches
    is_simple_stmt (repeats condition fs spot) = are_simple fs
    is_simple_stmt (counts x low high fs spot) = are_simple fs
    is_simple_stmt (exits condition spot) = true
    is_simple_stmt (calls procedure actuals) = false
    is_simple_stmt (returns spot) = true
    is_simple_stmt (raises e) = true
    is_simple_stmt (encloses ds fs hs) = are_simple_declarations types ds && are_simple fs && are_simple_handlers hs

    -- So it is with statements.
    pub are_simple : StmtsForm → Bool
    are_simple no_stmts = true
    are_simple (a_stmt f fs) = is_simple_stmt f && are_simple fs

    -- So it is with branches (5.3).
    pub are_simple_branches : BranchesForm → Bool
    are_simple_branches (otherwise fs) = are_simple fs
    are_simple_branches (a_branch e fs branches) = are_simple fs && are_simple_branches branches

    -- So it is with handlers (11.2).
    pub are_simple_handlers : HandlersForm → Bool
    are_simple_handlers no_handlers = true
    are_simple_handlers (a_handler choices fs hs) = are_simple fs && are_simple_handlers hs

-- A variable holds an Integer, a Boolean or an access value (3.3.1, 3.10): it is no record.
abbrev pub holds_one_value : VariableKind → Bool
holds_one_value variable.Integer = true
holds_one_value variable.Boolean = true
holds_one_value (variable.Access access) = true
holds_one_value (variable.Record object) = false

-- All of a body is so, and none of its variables is a record but the first one, the formal parameter.
abbrev pub is_simple_body : List TypeForm → BodyForm → Bool
is_simple_body types b =
    list_all (λ x. holds_one_value x.kind) (drop 1 b.variables) && are_simple_declarations types b.declarations
    && are_simple types b.statements && are_simple_handlers types b.handlers

-- A procedure that was found has such a body.
abbrev pub is_simple_procedure : List TypeForm → Option BodyForm → Bool
is_simple_procedure types None = true
is_simple_procedure types (Some b) = is_simple_body types b

-- So has what overrides an operation, if one is overridden (7.6).
abbrev pub is_simple_operation : ProgramForm → Option ProcedureNo → Bool
is_simple_operation p None = true
is_simple_operation p (Some procedure) = is_simple_procedure p.types (slice_get p.bodies procedure.0)
