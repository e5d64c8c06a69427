-- Bodies of Initialize and Finalize that touch storage, and of procedures that they call (7.6, 4.8, 5.2, 6.4, 13.11.2): they allocate, move, follow and free
-- objects, also some with controlled parts, which are initialized by default, assign records, and declare variables, which may be given
-- what they allocate, and record objects: by default, or with an initial value, if no Adjust is called for that, or none of the program tracks. S10 refuses a
-- Finalize that allocates.

use Rattle.std.specs.Prelude.{ℕ, Bool, true, false, not, ◌&&◌, ◌||◌, ◌==◌, nat_lt, length, if◌then◌else◌, List, [], ◌∷◌, ◌++◌, map, Option, Some, None, is_some}
use Rattle.std.specs.List.{list_all, slice_index_or}
use Rattle.ada_effects.specs.Effects.{record_path_raises}
use Rattle.ada_program.specs.Form.{RecordPathForm, ItemForm, RightForm, nothing, value_of, allocates, allocates_default, computes, StmtForm, skips, assigns, assigns_record, frees, gets, writes, writes_text, chooses, repeats, counts, exits, calls, returns, raises, encloses, StmtsForm, no_stmts, a_stmt, BranchesForm, otherwise, a_branch, HandlersForm, no_handlers, a_handler, DeclarationForm, creates_pool, collects, declares, declares_record}
use Rattle.ada_program.specs.declared.program.ProcedureNo.{ProcedureNo}
use Rattle.ada_program.specs.ProgramForm.{TypeForm, BodyForm, ProgramForm}
use Rattle.ada_program.specs.WellFormed.{finalization_of, object_named}
use Rattle.ada_quiet.specs.Apart.{is_bare_item, leave_access}
use Rattle.ada_quiet.specs.Bare.{has_bare_objects}
use Rattle.ada_quiet.specs.Calm.{is_known_calm, unadjusted_types, unfinalized_types}
use Rattle.ada_quiet.specs.Idle.{holds_parts}

-- What frugal bodies go by: the types of the program; of each record type with controlled parts, by its number among these, whether it overrides no Adjust, and
-- whether it overrides no Finalize, neither itself nor in a part of it; whether no Adjust of the program tracks; of each procedure, by its number, whether its
-- body is frugal where it is called (6.4); and of the body itself whether it is that of an operation (7.6), and how many formal parameters it has (6.1).
pub record Thrift : Type 0 where
  pub types : List TypeForm
  pub unadjusted : List Bool
  pub unfinalized : List Bool
  pub untracked : Bool
  pub procedures : List Bool
  pub operation : Bool
  pub formals : ℕ

-- What is assigned is no new object (4.8), or one without controlled parts, or one that is initialized by default (7.6).
abbrev pub allocates_frugally : Thrift → RightForm → Bool
allocates_frugally thrift nothing = true
allocates_frugally thrift (value_of path) = true
allocates_frugally thrift (allocates access items) = has_bare_objects thrift.types access
allocates_frugally thrift (allocates_default access) = true
allocates_frugally thrift (computes e) = true

-- A record object without controlled parts may get an initial value, whose items copy no record with some (3.3.1, 4.3.1, 7.6).
abbrev pub is_bare_initial : List TypeForm → (object_type : ℕ) → List ItemForm → Bool
is_bare_initial types t items = not (holds_parts types t) && list_all (is_bare_item types) items

-- It is known of a record type that nothing is called as an object is adjusted (7.6).
abbrev pub is_unadjusted : Thrift → (record_type : ℕ) → Bool
is_unadjusted thrift t = is_known_calm thrift.unadjusted (finalization_of thrift.types t)

-- So it is of one, if there is one.
abbrev pub is_unadjusted_named : Thrift → (record_type : Option ℕ) → Bool
is_unadjusted_named thrift None = false
is_unadjusted_named thrift (Some t) = is_unadjusted thrift t

-- A record object of such a type may get an initial value, too: it is finalized where its master is left, as one is that is initialized by default (7.6.1).
abbrev pub is_unadjusted_initial : Thrift → (object_type : ℕ) → Bool
is_unadjusted_initial thrift t = is_unadjusted_named thrift (object_named thrift.types (Some t))

-- So it may, whatever Adjust is called for it, where none tracks: that is in use as an Initialize is that is called for an object without one (7.6).
abbrev pub is_copied_initial : Thrift → (object_type : ℕ) → Bool
is_copied_initial thrift t = thrift.untracked || is_unadjusted_initial thrift t

-- It is known of a record type that nothing is called as a value ends to which another record is assigned (5.2, 7.6).
abbrev pub is_unfinalized : Thrift → (record_type : ℕ) → Bool
is_unfinalized thrift t = is_known_calm thrift.unfinalized (finalization_of thrift.types t)

-- And nothing is called as it is adjusted, either.
abbrev pub is_inert : Thrift → (record_type : ℕ) → Bool
is_inert thrift t = is_unfinalized thrift t && is_unadjusted thrift t

-- Another record may be copied to one of a type: no Adjust tracks, or none is called for it (5.2, 7.6).
abbrev pub is_copied : Thrift → (record_type : ℕ) → Bool
is_copied thrift t = thrift.untracked || is_unadjusted thrift t

-- A declaration is that of a variable (3.3.1), and so it is with what that is given at first; or of a record object that is initialized by default, or that may
-- get its initial value: no collection and no pool is created.
abbrev pub is_frugal_declaration : Thrift → DeclarationForm → Bool
is_frugal_declaration thrift (creates_pool p) = false
is_frugal_declaration thrift (collects access) = false
is_frugal_declaration thrift (declares x right) = allocates_frugally thrift right
is_frugal_declaration thrift (declares_record x t None) = true
is_frugal_declaration thrift (declares_record x t (Some items)) = is_bare_initial thrift.types t items || is_copied_initial thrift t

-- So is each of these.
abbrev pub are_frugal_declarations : Thrift → List DeclarationForm → Bool
are_frugal_declarations thrift ds = list_all (is_frugal_declaration thrift) ds

-- A variable of the body is a formal parameter: these are the first ones (6.1).
abbrev pub is_formal : Thrift → (variable : ℕ) → Bool
is_formal thrift x = nat_lt x thrift.formals

-- A record with controlled parts is assigned to as a whole (5.2) only where no Adjust tracks, or none is called for it, and it lies at hand: in a record variable,
-- and no access value is followed on the way (4.1). If that is a formal parameter, the body is that of an operation, nothing is called for the record at all, and
-- it is not the formal parameter as a whole.
abbrev pub assigns_at_hand : Thrift → RecordPathForm → Bool
assigns_at_hand thrift target =
    is_copied thrift target.record_type && not (record_path_raises target)
    && (not (is_formal thrift target.object.root) || (thrift.operation && is_inert thrift target.record_type && not (target.part == 0)))

module _ (thrift : Thrift) where
  abbrev mutual
    -- A statement assigns a record with controlled parts as a whole only where it lies at hand, and copies none into another one (5.2), gives
    -- values to the components of no new object with such parts (4.8), and calls procedures with frugal bodies alone (6.4).
    pub is_frugal_stmt : StmtForm → Bool
    is_frugal_stmt skips = true
    is_frugal_stmt (assigns target right) = allocates_frugally thrift right
    is_frugal_stmt (assigns_record target items) =
        if is_some (finalization_of thrift.types target.record_type) then assigns_at_hand thrift target else list_all (is_bare_item thrift.types) items
    is_frugal_stmt (frees access path) = true
    is_frugal_stmt (gets target) = true
    is_frugal_stmt (writes e) = true
    is_frugal_stmt (writes_text text) = true
    is_frugal_stmt (chooses branches) = are_frugal_branches branches
    is_frugal_stmt (repeats condition fs spot) = are_frugal fs
    is_frugal_stmt (counts x low high fs spot) = are_frugal fs
    is_frugal_stmt (exits condition spot) = true
    is_frugal_stmt (calls procedure actuals) = slice_index_or thrift.procedures procedure false
    is_frugal_stmt (returns spot) = true
    is_frugal_stmt (raises e) = true
    is_frugal_stmt (encloses ds fs hs) = are_frugal_declarations thrift ds && are_frugal fs && are_frugal_handlers hs

    -- So it is with statements.
    pub are_frugal : StmtsForm → Bool
    are_frugal no_stmts = true
    are_frugal (a_stmt f fs) = is_frugal_stmt f && are_frugal fs

    -- So it is with branches (5.3).
    pub are_frugal_branches : BranchesForm → Bool
    are_frugal_branches (otherwise fs) = are_frugal fs
    are_frugal_branches (a_branch e fs branches) = are_frugal fs && are_frugal_branches branches

    -- So it is with handlers (11.2).
    pub are_frugal_handlers : HandlersForm → Bool
    are_frugal_handlers no_handlers = true
    are_frugal_handlers (a_handler choices fs hs) = are_frugal fs && are_frugal_handlers hs

-- All of a body is so.
abbrev pub is_frugal_body : Thrift → BodyForm → Bool
is_frugal_body thrift b = are_frugal_declarations thrift b.declarations && are_frugal thrift b.statements && are_frugal_handlers thrift b.handlers

-- What a body with so many formal parameters goes by that is called, where this is known of procedures.
abbrev pub called_by : List TypeForm → (frugal : List Bool) → (formals : ℕ) → Thrift
called_by types frugal formals = record {
  types = types;
  unadjusted = unadjusted_types types;
  unfinalized = unfinalized_types types;
  untracked = leave_access types;
  procedures = frugal;
  operation = false;
  formals = formals;
}

-- Of these procedures, behind others, as they are called: each calls those before it.
abbrev pub frugal_from : List TypeForm → (frugal : List Bool) → List BodyForm → List Bool
frugal_from types frugal [] = frugal
frugal_from types frugal (b ∷ bs) = frugal_from types (frugal ++ is_frugal_body (called_by types frugal (length b.formals)) b ∷ []) bs

-- Of the procedures of a program, as they are called.
abbrev pub frugal_procedures : ProgramForm → List Bool
frugal_procedures p = frugal_from p.types [] p.bodies

-- What the frugal bodies of operations go by in a program: each has one formal parameter (7.6).
abbrev pub thrift_of : ProgramForm → Thrift
thrift_of p = record {
  types = p.types;
  unadjusted = unadjusted_types p.types;
  unfinalized = unfinalized_types p.types;
  untracked = leave_access p.types;
  procedures = frugal_procedures p;
  operation = true;
  formals = 1;
}

-- Of the procedures of a program, whether their bodies are frugal as those of operations.
abbrev pub frugal_operations : ProgramForm → List Bool
frugal_operations p = map (is_frugal_body (thrift_of p)) p.bodies

-- What overrides an operation has a frugal body, if one is overridden (7.6).
abbrev pub is_frugal_operation : ProgramForm → Option ProcedureNo → Bool
is_frugal_operation p None = true
is_frugal_operation p (Some procedure) = slice_index_or (frugal_operations p) procedure.0 false
