-- Which bodies are still: while one runs, nothing is initialized, adjusted or finalized, so that no operation of a controlled type is called (7.6, 7.6.1).

use Rattle.std.specs.Prelude.{◌≡◌, ◌⊎◌, ℕ, Bool, true, false, ◌&&◌, not, List, [], ◌∷◌, ◌++◌, Option, Some, None, is_some}
use Rattle.std.specs.List.{list_all, slice_get, slice_index_or}
use Rattle.ada_program.specs.Form.{RightForm, nothing, value_of, allocates, allocates_default, computes, StmtForm, skips, assigns, assigns_record, frees, gets, writes, writes_text, chooses, repeats, counts, exits, calls, returns, raises, encloses, StmtsForm, no_stmts, a_stmt, BranchesForm, otherwise, a_branch, HandlersForm, no_handlers, a_handler, DeclarationForm, creates_pool, collects, declares, declares_record}
use Rattle.ada_program.specs.ProgramForm.{TypeForm, BodyForm, ProgramForm, main_body}
use Rattle.ada_program.specs.WellFormed.{finalization_of, object_named}

-- What a text may do: of which access types it may declare the collections (7.6.1); objects of which access types, or known by which types, it may create
-- (3.3.1, 4.8); to records of which types it may assign as wholes (5.2); by the instances for which access types it may free (13.11.2); and which procedures
-- it may call (6.4).
pub record Bounds : Type 0 where
  pub collects : (access : ℕ) → Bool
  pub creates : (object_type : ℕ) → Bool
  pub assigns : (record_type : ℕ) → Bool
  pub frees : (access : ℕ) → Bool
  pub calls : (procedure : ℕ) → Bool

-- What is assigned is no new object, or one that may be created (4.8).
abbrev pub right_keeps : Bounds → RightForm → Bool
right_keeps bounds nothing = true
right_keeps bounds (value_of path) = true
right_keeps bounds (allocates access items) = bounds.creates access
right_keeps bounds (allocates_default access) = bounds.creates access
right_keeps bounds (computes e) = true

-- A declaration creates what may be created (3.11).
abbrev pub declaration_keeps : Bounds → DeclarationForm → Bool
declaration_keeps bounds (creates_pool p) = true
declaration_keeps bounds (collects access) = bounds.collects access
declaration_keeps bounds (declares x right) = right_keeps bounds right
declaration_keeps bounds (declares_record x t initial) = bounds.creates t

-- So does each of these.
abbrev pub declarations_keep : Bounds → List DeclarationForm → Bool
declarations_keep bounds ds = list_all (declaration_keeps bounds) ds

module _ (bounds : Bounds) where
  abbrev mutual
    -- A statement does what may be done, and calls procedures that may be called (5.1).
    pub stmt_keeps : StmtForm → Bool
    stmt_keeps skips = true
    stmt_keeps (assigns target right) = right_keeps bounds right
    stmt_keeps (assigns_record target items) = bounds.assigns target.record_type
    stmt_keeps (frees access path) = bounds.frees access
    stmt_keeps (gets target) = true
    stmt_keeps (writes e) = true
    stmt_keeps (writes_text text) = true
    stmt_keeps (chooses branches) = branches_keep branches
    stmt_keeps (repeats condition fs spot) = stmts_keep fs
    stmt_keeps (counts x low high fs spot) = stmts_keep fs
    stmt_keeps (exits condition spot) = true
    stmt_keeps (calls procedure actuals) = bounds.calls procedure
    stmt_keeps (returns spot) = true
    stmt_keeps (raises e) = true
    stmt_keeps (encloses ds fs hs) = declarations_keep bounds ds && stmts_keep fs && handlers_keep hs

    -- So it is with statements.
    pub stmts_keep : StmtsForm → Bool
    stmts_keep no_stmts = true
    stmts_keep (a_stmt f fs) = stmt_keeps f && stmts_keep fs

    -- So it is with branches (5.3).
    pub branches_keep : BranchesForm → Bool
    branches_keep (otherwise fs) = stmts_keep fs
    branches_keep (a_branch e fs branches) = stmts_keep fs && branches_keep branches

    -- So it is with handlers (11.2).
    pub handlers_keep : HandlersForm → Bool
    handlers_keep no_handlers = true
    handlers_keep (a_handler choices fs hs) = stmts_keep fs && handlers_keep hs

-- So it is with all of a body.
abbrev pub body_keeps : Bounds → BodyForm → Bool
body_keeps bounds b = declarations_keep bounds b.declarations && stmts_keep bounds b.statements && handlers_keep bounds b.handlers

-- A record type has controlled parts (7.6), if it is one.
abbrev pub has_parts : List TypeForm → (record_type : Option ℕ) → Bool
has_parts types None = false
has_parts types (Some r) = is_some (finalization_of types r)

-- So do the objects that an access type designates, or that are known by a type (3.10, 3.3.1).
abbrev pub holds_parts : List TypeForm → (object_type : ℕ) → Bool
holds_parts types t = has_parts types (object_named types (Some t))

-- What a still body may do, where these procedures are still: it creates, assigns and frees nothing that has controlled parts, so nothing is initialized,
-- adjusted or finalized; nor is anything where it leaves the collections that it declares, since their objects have none (7.6.1). It calls still procedures alone.
abbrev pub still_bounds : List TypeForm → (still : ℕ → Bool) → Bounds
still_bounds types still = record {
  collects = λ access. not (holds_parts types access);
  creates = λ t. not (holds_parts types t);
  assigns = λ t. not (has_parts types (Some t));
  frees = λ access. not (holds_parts types access);
  calls = still;
}

-- A body is still, where these procedures are.
abbrev pub is_still_body : List TypeForm → (still : ℕ → Bool) → BodyForm → Bool
is_still_body types still b = body_keeps (still_bounds types still) b

-- Of these procedures, behind others, whether they are still: each calls those before it.
abbrev pub still_from : List TypeForm → (known : List Bool) → List BodyForm → List Bool
still_from types known [] = known
still_from types known (b ∷ bs) = still_from types (known ++ is_still_body types (λ procedure. slice_index_or known procedure false) b ∷ []) bs

-- Of the procedures of a program, by their numbers.
abbrev pub still_procedures : ProgramForm → List Bool
still_procedures p = still_from p.types [] p.bodies

-- A procedure of a program is still, if there is one.
abbrev pub is_still : ProgramForm → (procedure : ℕ) → Bool
is_still p procedure = slice_index_or (still_procedures p) procedure false

-- What a text may do that declares no collection of some access types, and creates no object of these or known by some types: all else.
abbrev pub bounds_without : (own : ℕ → Bool) → Bounds
bounds_without own = record {
  collects = λ access. not (own access);
  creates = λ t. not (own t);
  assigns = λ t. true;
  frees = λ access. true;
  calls = λ procedure. true;
}

-- A body declares no collection of these types, and creates no object of one (3.11, 4.8, 5.6).
abbrev pub collects_none : (own : ℕ → Bool) → BodyForm → Bool
collects_none own b = body_keeps (bounds_without own) b

-- Some types are those of still procedures: these alone declare their collections and create their objects, where each is still as far as it calls such ones.
pub record CollectWhereStill (own still : ℕ → Bool) (p : ProgramForm) : Type 0 where
  pub main : collects_none own (main_body p) ≡ true
  pub bodies : (procedure : ℕ) (b : BodyForm) → slice_get p.bodies procedure ≡ Some b → (collects_none own b ≡ true) ⊎ (still procedure ≡ true)
  pub keeps : (procedure : ℕ) (b : BodyForm) → slice_get p.bodies procedure ≡ Some b → still procedure ≡ true → is_still_body p.types still b ≡ true

-- They are those of the procedures of a program that are found still.
pub record CollectStill (own : ℕ → Bool) (p : ProgramForm) : Type 0 where
  pub main : collects_none own (main_body p) ≡ true
  pub bodies : (procedure : ℕ) (b : BodyForm) → slice_get p.bodies procedure ≡ Some b → (collects_none own b ≡ true) ⊎ (is_still p procedure ≡ true)
