-- Whether access types stand beside the others, by the text of a program: each body names them only inside what creates their collections.

use Rattle.std.specs.Prelude.{◌≡◌, ℕ, suc, Bool, true, false, ◌&&◌, ◌||◌, ◌==◌, not, if◌then◌else◌, List, [], ◌∷◌, ◌++◌, Option, Some, None, AllPairs}
use Rattle.std.specs.List.{list_all, list_any, slice_index_or}
use Rattle.ada_program.specs.declared.program.ComponentKind.{ComponentKind}
use Rattle.ada_program.specs.declared.program.ComponentKind.TheVariants as component
use Rattle.ada_program.specs.declared.program.Operations.{Operations}
use Rattle.ada_program.specs.declared.program.ProcedureNo.{ProcedureNo}
use Rattle.ada_program.specs.declared.program.Program.{Program}
use Rattle.ada_program.specs.Controlled.{operations_in}
use Rattle.ada_program.specs.Form.{DeclarationForm, StmtForm, skips, assigns, assigns_record, frees, gets, writes, writes_text, chooses, repeats, counts, exits, calls, returns, raises, encloses, StmtsForm, no_stmts, a_stmt, BranchesForm, otherwise, a_branch, HandlersForm, no_handlers, a_handler}
use Rattle.ada_program.specs.Freed.{FreesItsOwn}
use Rattle.ada_program.specs.Nested.{collected, record_objects, is_one_of, CollectionsNest}
use Rattle.ada_program.specs.ProgramForm.{TypeForm, BodyForm, ProgramForm, main_body, program_form}
use Rattle.ada_program.specs.WellFormed.{IsWellFormed, Creation, of_pool, of_collection, of_variable, created_in, is_access, finalization_in, finalization_of, reached_components}
use Rattle.ada_meaning.specs.Law.{items_of}
use Rattle.ada_scopes.specs.Scopes.{InItsRuns, CollectTwoTypes}
use Rattle.ada_still.specs.Still.{Bounds, body_keeps, collects_none, is_still, CollectStill}
use Rattle.ada_still.specs.Beside.{are_other_kinds, NestBeside}

-- A component holds no access value of one of these types, or one of a type whose collection the text creates around it (3.8, 7.6.1).
abbrev pub kind_stays : (own : ℕ → Bool) → (inside : List ℕ) → ComponentKind → Bool
kind_stays own inside (component.Integer initial) = true
kind_stays own inside (component.Boolean initial) = true
kind_stays own inside (component.Access access) = not (own access.0) || is_one_of inside access.0

-- So does each component of an object.
abbrev pub kinds_stay : (own : ℕ → Bool) → (inside : List ℕ) → Option (List ComponentKind) → Bool
kinds_stay own inside None = true
kinds_stay own inside (Some components) = list_all (kind_stays own inside) components

-- So do the objects that values of a type name, or that are known by it (3.10, 3.3.1).
abbrev pub type_stays : List TypeForm → (own : ℕ → Bool) → (inside : List ℕ) → (object_type : ℕ) → Bool
type_stays types own inside t = kinds_stay own inside (reached_components types t)

-- A part creates collections of such access types alone, and the objects of these, and its record objects, name none of the own types but those whose
-- collections the text creates around them.
abbrev pub part_stays : List TypeForm → (own collects : ℕ → Bool) → (inside : List ℕ) → List DeclarationForm → Bool
part_stays types own collects inside ds =
    list_all collects (collected ds) && list_all (type_stays types own (collected ds ++ inside)) (collected ds) &&
    list_all (type_stays types own (collected ds ++ inside)) (record_objects ds)

module _ (types : List TypeForm) (own collects : ℕ → Bool) (may_call : (procedure : ℕ) → Bool) where
  abbrev mutual
    -- So do the parts of the blocks in a statement (5.6), and it calls such procedures alone (6.4).
    pub stmt_stays : (inside : List ℕ) → StmtForm → Bool
    stmt_stays inside skips = true
    stmt_stays inside (assigns target right) = true
    stmt_stays inside (assigns_record target items) = true
    stmt_stays inside (frees access path) = true
    stmt_stays inside (gets target) = true
    stmt_stays inside (writes e) = true
    stmt_stays inside (writes_text text) = true
    stmt_stays inside (chooses branches) = branches_stay inside branches
    stmt_stays inside (repeats condition fs spot) = stmts_stay inside fs
    stmt_stays inside (counts x low high fs spot) = stmts_stay inside fs
    stmt_stays inside (exits condition spot) = true
    stmt_stays inside (calls procedure actuals) = may_call procedure
    stmt_stays inside (returns spot) = true
    stmt_stays inside (raises e) = true
    stmt_stays inside (encloses ds fs hs) =
        part_stays types own collects inside ds && stmts_stay (collected ds ++ inside) fs && handlers_stay (collected ds ++ inside) hs

    -- So it is with statements.
    pub stmts_stay : (inside : List ℕ) → StmtsForm → Bool
    stmts_stay inside no_stmts = true
    stmts_stay inside (a_stmt f fs) = stmt_stays inside f && stmts_stay inside fs

    -- So it is with branches (5.3).
    pub branches_stay : (inside : List ℕ) → BranchesForm → Bool
    branches_stay inside (otherwise fs) = stmts_stay inside fs
    branches_stay inside (a_branch e fs branches) = stmts_stay inside fs && branches_stay inside branches

    -- So it is with handlers (11.2).
    pub handlers_stay : (inside : List ℕ) → HandlersForm → Bool
    handlers_stay inside no_handlers = true
    handlers_stay inside (a_handler choices fs hs) = stmts_stay inside fs && handlers_stay inside hs

  -- So it is with all of a body.
  abbrev pub body_stays : BodyForm → Bool
  body_stays b =
      part_stays types own collects [] b.declarations && stmts_stay (collected b.declarations) b.statements && handlers_stay (collected b.declarations) b.handlers

-- Of these procedures, behind others, whether their bodies do: each calls those before it (6.4).
abbrev pub staying_from : List TypeForm → (own collects : ℕ → Bool) → (known : List Bool) → List BodyForm → List Bool
staying_from types own collects known [] = known
staying_from types own collects known (b ∷ bs) =
    staying_from types own collects (known ++ body_stays types own collects (λ procedure. slice_index_or known procedure false) b ∷ []) bs

-- Of the procedures of a program, whether each names own types only inside what creates their collections.
abbrev pub naming_inside : (own : ℕ → Bool) → ProgramForm → List Bool
naming_inside own p = staying_from p.types own (λ access. true) [] p.bodies

-- A type is an access type, and one of the own ones (3.10).
abbrev pub own_accesses : List TypeForm → (own : ℕ → Bool) → (access : ℕ) → Bool
own_accesses types own access = own access && is_access types access

-- And whether, besides, it and what it calls create collections of own types alone (7.6.1).
abbrev pub collecting_own : (own : ℕ → Bool) → ProgramForm → List Bool
collecting_own own p = staying_from p.types own (own_accesses p.types own) [] p.bodies

-- A procedure that overrides an operation, if one does, names own types only so, and creates collections of these alone (7.6).
abbrev pub operation_stays : (own : ℕ → Bool) → ProgramForm → Option ProcedureNo → Bool
operation_stays own p None = true
operation_stays own p (Some procedure) = slice_index_or (collecting_own own p) procedure.0 false

-- So does each operation of a type.
abbrev pub operations_stay : (own : ℕ → Bool) → ProgramForm → Operations → Bool
operations_stay own p o = operation_stays own p o.initialize && operation_stays own p o.adjust && operation_stays own p o.finalize

-- Objects of a type name no own type, if it is another one, and its operations create collections of own types alone.
abbrev pub type_is_beside : (own : ℕ → Bool) → ProgramForm → (t : ℕ) → Bool
type_is_beside own p t =
    (own t || are_other_kinds own (reached_components p.types t)) && operations_stay own p (operations_in (finalization_of p.types t))

-- So it is with each of these types, from a number on.
abbrev pub are_beside : (own : ℕ → Bool) → ProgramForm → (number : ℕ) → List TypeForm → Bool
are_beside own p n [] = true
are_beside own p n (t ∷ ts) = type_is_beside own p n && are_beside own p (suc n) ts

-- Whether own types stand beside the others: so it is with all types, and all procedures name own types only inside what creates their collections.
abbrev pub nest_by_text : (own : ℕ → Bool) → ProgramForm → Bool
nest_by_text own p = are_beside own p 0 p.types && list_all (λ stays. stays) (naming_inside own p)

-- Each of these bodies creates nothing of own types, or is still, by its number.
abbrev pub are_still_by_text : (own : ℕ → Bool) → ProgramForm → (number : ℕ) → List BodyForm → Bool
are_still_by_text own p n [] = true
are_still_by_text own p n (b ∷ bs) = (collects_none own b || is_still p n) && are_still_by_text own p (suc n) bs

-- Whether own types are those of still procedures: the main procedure creates nothing of them, and each body that does is still.
abbrev pub still_by_text : (own : ℕ → Bool) → ProgramForm → Bool
still_by_text own p = collects_none own (main_body p) && are_still_by_text own p 0 p.bodies

-- The access types whose collections are created (7.6.1).
abbrev pub accesses_in : List Creation → List ℕ
accesses_in [] = []
accesses_in (of_pool pool ∷ cs) = accesses_in cs
accesses_in (of_collection access ∷ cs) = access ∷ accesses_in cs
accesses_in (of_variable x ∷ cs) = accesses_in cs

-- Those that the bodies of chosen procedures create, of these from a number on.
abbrev pub collected_in : (chosen : ℕ → Bool) → (number : ℕ) → List BodyForm → List ℕ
collected_in chosen n [] = []
collected_in chosen n (b ∷ bs) = if chosen n then accesses_in (created_in b) ++ collected_in chosen (suc n) bs else collected_in chosen (suc n) bs

-- The procedure that overrides an operation, if one does, has this number (7.6).
abbrev pub is_this : (number : ℕ) → Option ProcedureNo → Bool
is_this n None = false
is_this n (Some procedure) = procedure.0 == n

-- So does one of these operations.
abbrev pub overridden_by : (number : ℕ) → Operations → Bool
overridden_by n o = is_this n o.initialize || is_this n o.adjust || is_this n o.finalize

-- It overrides an operation of a type of the program.
abbrev pub operates : ProgramForm → (number : ℕ) → Bool
operates p n = list_any (λ t. overridden_by n (operations_in (finalization_in (Some t)))) p.types

-- What a text may do that does not call the procedure of this number: all else.
abbrev pub bounds_uncalled : (number : ℕ) → Bounds
bounds_uncalled n = record {
  collects = λ access. true;
  creates = λ t. true;
  assigns = λ t. true;
  frees = λ access. true;
  calls = λ procedure. not (procedure == n);
}

-- One of these bodies that are marked calls it (6.4).
abbrev pub is_called_by : (number : ℕ) → (marks : List Bool) → List BodyForm → Bool
is_called_by n [] bs = false
is_called_by n (m ∷ ms) [] = false
is_called_by n (m ∷ ms) (b ∷ bs) = (m && not (body_keeps (bounds_uncalled n) b)) || is_called_by n ms bs

-- Of these procedures, from a number on, whether each runs in operations: it overrides one, or is called by a body of such a procedure, after it.
abbrev pub running_from : ProgramForm → (number : ℕ) → List BodyForm → List Bool
running_from p n [] = []
running_from p n (b ∷ bs) = (operates p n || is_called_by n (running_from p (suc n) bs) bs) ∷ running_from p (suc n) bs

-- Whether a procedure of a program runs in operations.
abbrev pub runs_in_operations : ProgramForm → (procedure : ℕ) → Bool
runs_in_operations p procedure = slice_index_or (running_from p 0 p.bodies) procedure false

-- The access types whose collections the bodies of chosen procedures create, and the types of objects that name one of these.
abbrev pub own_types : (chosen : (procedure : ℕ) → Bool) → ProgramForm → ℕ → Bool
own_types chosen p t =
    let mine = is_one_of (collected_in chosen 0 p.bodies) in
    mine t || not (are_other_kinds mine (reached_components p.types t))

-- The own types of operations: those of the procedures that run in operations.
abbrev pub own_of_operations : ProgramForm → ℕ → Bool
own_of_operations p = own_types (runs_in_operations p) p

-- Types are those of still procedures wherever the text says so.
abbrev pub StillByText : Type 0
StillByText = (p : ProgramForm) (own : ℕ → Bool) → still_by_text own p ≡ true → CollectStill own p

-- They nest beside the others wherever it says so, in a well-formed program: each access type has one collection (7.6.1).
abbrev pub BesideByText : Type 0
BesideByText = (p : ProgramForm) → IsWellFormed p → (own : ℕ → Bool) → nest_by_text own p ≡ true → NestBeside own p

-- No access type has two collections at a time (7.6.1), also where operations declare access types, if the text says both of these.
abbrev pub OneCollectionByText : Type 0
OneCollectionByText =
    (program : Program) → IsWellFormed (program_form program) → CollectionsNest (program_form program) → FreesItsOwn (program_form program)
    → (own : ℕ → Bool) → still_by_text own (program_form program) ≡ true → nest_by_text own (program_form program) ≡ true
    → InItsRuns program (λ last. AllPairs CollectTwoTypes (items_of last.masters))
