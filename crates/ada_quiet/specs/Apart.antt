-- Operations of controlled types stand apart: nothing calls a procedure that overrides an Adjust which tracks components, and it overrides no other operation
-- (7.6); and no allocator gives values to the components of an object with controlled parts, or copies a record with some (4.8): so each such object that is
-- allocated is initialized by default.

use Rattle.std.specs.Prelude.{ℕ, Bool, true, false, ◌&&◌, ◌||◌, not, ◌==◌, List, Option, Some, None, is_some}
use Rattle.std.specs.List.{list_all, list_any}
use Rattle.ada_program.specs.declared.program.Finalization.{Finalization}
use Rattle.ada_program.specs.declared.program.ProcedureNo.{ProcedureNo}
use Rattle.ada_program.specs.Form.{ItemForm, null_item, item_of_path, item_of_value, item_of_record, RightForm, nothing, value_of, allocates, allocates_default, computes, StmtForm, skips, assigns, assigns_record, frees, gets, writes, writes_text, chooses, repeats, counts, exits, calls, returns, raises, encloses, StmtsForm, no_stmts, a_stmt, BranchesForm, otherwise, a_branch, HandlersForm, no_handlers, a_handler, DeclarationForm, creates_pool, collects, declares, declares_record}
use Rattle.ada_program.specs.ProgramForm.{TypeForm, BodyForm, ProgramForm, main_body}
use Rattle.ada_program.specs.WellFormed.{finalization_in, finalization_of, is_inherited}
use Rattle.ada_quiet.specs.Bare.{has_bare_objects}
use Rattle.ada_quiet.specs.Quiet.{has_access}

-- What overrides an operation, if one is overridden, is this procedure.
abbrev pub is_this_one : (procedure : ℕ) → Option ProcedureNo → Bool
is_this_one n None = false
is_this_one n (Some procedure) = procedure.0 == n

-- So it is of the Adjust of a type that has operations.
abbrev pub is_adjust_of : (procedure : ℕ) → Option Finalization → Bool
is_adjust_of n None = false
is_adjust_of n (Some f) = is_this_one n f.operations.adjust

-- A procedure tracks, if it overrides Adjust of a type that declares a component of an access type directly (3.10, 7.6).
abbrev pub is_tracker : ProgramForm → (procedure : ℕ) → Bool
is_tracker p n = list_any (λ t. has_access (Some t) && is_adjust_of n (finalization_in (Some t))) p.types

-- A type that declares a component of an access type directly overrides no Adjust (3.10, 7.6).
abbrev pub leaves_access : TypeForm → Option Finalization → Bool
leaves_access t None = true
leaves_access t (Some f) = not (has_access (Some t)) || is_inherited f.operations.adjust

-- So it is with each of these types: no Adjust tracks, and a record that is copied has no component of an access type, at any depth.
abbrev pub leave_access : List TypeForm → Bool
leave_access types = list_all (λ t. leaves_access t (finalization_in (Some t))) types

-- An item of an aggregate copies no record with controlled parts (4.3.1, 7.6).
abbrev pub is_bare_item : List TypeForm → ItemForm → Bool
is_bare_item types null_item = true
is_bare_item types (item_of_path path) = true
is_bare_item types (item_of_value e) = true
is_bare_item types (item_of_record path) = not (is_some (finalization_of types path.record_type))

-- Nor does what is assigned (5.2), where it is a new object with items for its components (4.8); and that has no controlled parts.
abbrev pub is_bare_right : List TypeForm → RightForm → Bool
is_bare_right types nothing = true
is_bare_right types (value_of path) = true
is_bare_right types (allocates access items) = has_bare_objects types access && list_all (is_bare_item types) items
is_bare_right types (allocates_default access) = true
is_bare_right types (computes e) = true

-- What is given to a variable at first copies no such record in an allocator (3.3.1, 4.8).
abbrev pub declares_apart : List TypeForm → DeclarationForm → Bool
declares_apart types (creates_pool pool) = true
declares_apart types (collects access) = true
declares_apart types (declares x right) = is_bare_right types right
declares_apart types (declares_record x t initial) = true

-- So it is with each of these declarations.
abbrev pub declare_apart : List TypeForm → List DeclarationForm → Bool
declare_apart types ds = list_all (declares_apart types) ds

-- Of each procedure, whether it tracks.
module _ (types : List TypeForm) (tracks : ℕ → Bool) where
  abbrev mutual
    -- A statement calls no procedure that tracks (6.4), and its allocator with items makes no object with controlled parts and copies no record with some
    -- (4.8).
    pub calls_apart : StmtForm → Bool
    calls_apart skips = true
    calls_apart (assigns target right) = is_bare_right types right
    calls_apart (assigns_record target items) = true
    calls_apart (frees access path) = true
    calls_apart (gets target) = true
    calls_apart (writes e) = true
    calls_apart (writes_text text) = true
    calls_apart (chooses branches) = branches_call_apart branches
    calls_apart (repeats condition fs spot) = all_call_apart fs
    calls_apart (counts x low high fs spot) = all_call_apart fs
    calls_apart (exits condition spot) = true
    calls_apart (calls procedure actuals) = not (tracks procedure)
    calls_apart (returns spot) = true
    calls_apart (raises e) = true
    calls_apart (encloses ds fs hs) = declare_apart types ds && all_call_apart fs && handlers_call_apart hs

    -- So it is with statements.
    pub all_call_apart : StmtsForm → Bool
    all_call_apart no_stmts = true
    all_call_apart (a_stmt f fs) = calls_apart f && all_call_apart fs

    -- So it is with branches (5.3).
    pub branches_call_apart : BranchesForm → Bool
    branches_call_apart (otherwise fs) = all_call_apart fs
    branches_call_apart (a_branch e fs branches) = all_call_apart fs && branches_call_apart branches

    -- So it is with handlers (11.2).
    pub handlers_call_apart : HandlersForm → Bool
    handlers_call_apart no_handlers = true
    handlers_call_apart (a_handler choices fs hs) = all_call_apart fs && handlers_call_apart hs

-- So it is with a body.
abbrev pub body_calls_apart : List TypeForm → (tracks : ℕ → Bool) → BodyForm → Bool
body_calls_apart types tracks b =
    declare_apart types b.declarations && all_call_apart types tracks b.statements && handlers_call_apart types tracks b.handlers

-- What overrides an operation, if one is overridden, does not track.
abbrev pub overrides_apart : (tracks : ℕ → Bool) → Option ProcedureNo → Bool
overrides_apart tracks None = true
overrides_apart tracks (Some procedure) = not (tracks procedure.0)

-- Of a type, which declares a component of an access type or not, neither Initialize nor Finalize tracks, and Adjust does only where the type declares one
-- (7.6).
abbrev pub operations_apart : (tracks : ℕ → Bool) → (owns : Bool) → Option Finalization → Bool
operations_apart tracks owns None = true
operations_apart tracks owns (Some f) =
    overrides_apart tracks f.operations.initialize && (owns || overrides_apart tracks f.operations.adjust) && overrides_apart tracks f.operations.finalize

-- Operations stand apart in a program: no body calls what tracks, and that overrides nothing else; and no allocator with items makes an object with controlled
-- parts, or copies a record with some.
abbrev pub operations_stand_apart : ProgramForm → Bool
operations_stand_apart p =
    body_calls_apart p.types (is_tracker p) (main_body p) && list_all (body_calls_apart p.types (is_tracker p)) p.bodies
    && list_all (λ t. operations_apart (is_tracker p) (has_access (Some t)) (finalization_in (Some t))) p.types
