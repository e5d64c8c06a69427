-- A frugal body (7.6, 7.6.1, 13.11.2) creates no collection, and neither do those that it calls (6.4): it nests wherever it is called while the collections
-- of all access types are open, in which what its record objects name lies (3.8, 3.10.2).

use Rattle.std.proofs.Common.{◌≡◌, ℕ, zero, suc, ◌==◌, Bool, true, false, List, [], ◌∷◌, ◌++◌, length, refl}
use Rattle.std.specs.List.{list_all, slice_get, slice_index_or}
use Rattle.std.proofs.lemmas.Bool.{and_from, and_parts, or_right}
use Rattle.ada_program.specs.Form.{StmtForm, skips, assigns, assigns_record, frees, gets, writes, writes_text, chooses, repeats, counts, exits, calls, returns, raises, encloses, StmtsForm, no_stmts, a_stmt, BranchesForm, otherwise, a_branch, HandlersForm, no_handlers, a_handler, DeclarationForm, creates_pool, collects, declares, declares_record}
use Rattle.ada_program.specs.Nested.{Callees, collected, record_objects, is_one_of, record_nests, part_nests, call_nests, statement_nests, statements_nest, branches_nest, handlers_nest, body_nests, callees_from, callees_of}
use Rattle.ada_program.specs.ProgramForm.{TypeForm, BodyForm, ProgramForm}
use Rattle.ada_program.specs.WellFormed.{is_access}
use Rattle.ada_scopes.proofs.Lacked.{KindsOpen}
use Rattle.ada_quiet.specs.Frugal.{allocates_frugally, called_by, is_frugal_declaration, are_frugal_declarations, is_frugal_stmt, are_frugal, are_frugal_branches, are_frugal_handlers, is_frugal_body, Thrift, frugal_from, frugal_procedures}

-- The collections of all access types are open.
abbrev pub HasAll : List TypeForm → (around : List ℕ) → Type 0
HasAll types around = (t : ℕ) → is_access types t ≡ true → is_one_of around t ≡ true

-- The declarations, the statements and the handlers of a frugal body are frugal.
pub frugal_parts : (frugal : Thrift) (b : BodyForm) → is_frugal_body frugal b ≡ true → (are_frugal_declarations frugal b.declarations ≡ true) × (are_frugal frugal b.statements ≡ true) × (are_frugal_handlers frugal b.handlers ≡ true)
frugal_parts frugal b is =
    let three = and_parts _ _ is in
    let two = and_parts _ _ three.0 in
    (two.0, two.1, three.1)

-- They create no collection,
none_collected : (frugal : Thrift) (ds : List DeclarationForm) → are_frugal_declarations frugal ds ≡ true → collected ds ≡ []
none_collected frugal [] is = refl
none_collected frugal (creates_pool p ∷ ds) is = absurd (cc is)
none_collected frugal (collects access ∷ ds) is = absurd (cc is)
none_collected frugal (declares x right ∷ ds) is = none_collected frugal ds (and_parts (allocates_frugally frugal right) (are_frugal_declarations frugal ds) is).1
none_collected frugal (declares_record x t initial ∷ ds) is =
    none_collected frugal ds (and_parts (is_frugal_declaration frugal (declares_record x t initial)) (are_frugal_declarations frugal ds) is).1

-- and what their record objects name lies in open collections, where those of all access types are.
records_open : (types : List TypeForm) → KindsOpen types → (there : List ℕ) → HasAll types there → (objects : List ℕ) → list_all (record_nests types there) objects ≡ true
records_open types kinds there all [] = refl
records_open types kinds there all (t ∷ ts) =
    and_from (record_nests types there t) (list_all (record_nests types there) ts) (kinds there all t) (records_open types kinds there all ts)

-- More collections may be open.
pub more_open : (types : List TypeForm) (more around : List ℕ) → HasAll types around → HasAll types (more ++ around)
more_open types [] around all = all
more_open types (u ∷ more) around all = λ t is. or_right (u == t) (is_one_of (more ++ around) t) (more_open types more around all t is)

-- What calls of frugal procedures create nests where these collections are open.
abbrev CalleesNest : (types : List TypeForm) → (frugal : List Bool) → Callees → Type 0
CalleesNest types frugal callees =
    (number : ℕ) → slice_index_or frugal number false ≡ true → (around : List ℕ) → HasAll types around → call_nests (slice_get callees number) around ≡ true

-- Of each procedure one knows both, by its number.
abbrev InStep : (types : List TypeForm) → List Bool → Callees → Type 0
InStep types [] [] = Unit {0}
InStep types [] (n ∷ ns) = ⊥
InStep types (m ∷ ms) [] = ⊥
InStep types (m ∷ ms) (n ∷ ns) = (m ≡ true → (around : List ℕ) → HasAll types around → n around ≡ true) × InStep types ms ns

step_nests : (types : List TypeForm) (allowance : List Bool) (nests : Callees) → InStep types allowance nests → CalleesNest types allowance nests
step_nests types [] [] step number is around all = absurd (cc is)
step_nests types [] (n ∷ ns) step number is around all = absurd step
step_nests types (m ∷ ms) [] step number is around all = absurd step
step_nests types (m ∷ ms) (n ∷ ns) step zero is around all = step.0 is around all
step_nests types (m ∷ ms) (n ∷ ns) step (suc number) is around all = step_nests types ms ns step.1 number is around all

module _ (frugal : Thrift) (kinds : KindsOpen frugal.types) where
  pub part_is : (around : List ℕ) → HasAll frugal.types around → (ds : List DeclarationForm) → are_frugal_declarations frugal ds ≡ true
      → part_nests frugal.types around ds ≡ true
  part_is around all ds is = rw (none_collected frugal ds is) (records_open frugal.types kinds around all (record_objects ds))

  module _ (callees : Callees) (nest : CalleesNest frugal.types frugal.procedures callees) where
    mutual
      stmt_is : (around : List ℕ) → HasAll frugal.types around → (f : StmtForm) → is_frugal_stmt frugal f ≡ true
          → statement_nests frugal.types callees around f ≡ true
      stmt_is around all skips is = refl
      stmt_is around all (assigns target right) is = refl
      stmt_is around all (assigns_record target items) is = refl
      stmt_is around all (frees access path) is = refl
      stmt_is around all (gets target) is = refl
      stmt_is around all (writes e) is = refl
      stmt_is around all (writes_text text) is = refl
      stmt_is around all (chooses branches) is = branches_are around all branches is
      stmt_is around all (repeats condition fs spot) is = stmts_are around all fs is
      stmt_is around all (counts x low high fs spot) is = stmts_are around all fs is
      stmt_is around all (exits condition spot) is = refl
      stmt_is around all (calls procedure actuals) is = nest procedure is around all
      stmt_is around all (returns spot) is = refl
      stmt_is around all (raises e) is = refl
      stmt_is around all (encloses ds fs hs) is =
          let two = and_parts _ _ is in
          let three = and_parts _ _ two.0 in
          let inside = more_open frugal.types (collected ds) around all in
          rw (part_is around all ds three.0, stmts_are (collected ds ++ around) inside fs three.1, handlers_are (collected ds ++ around) inside hs two.1) refl

      stmts_are : (around : List ℕ) → HasAll frugal.types around → (fs : StmtsForm) → are_frugal frugal fs ≡ true
          → statements_nest frugal.types callees around fs ≡ true
      stmts_are around all no_stmts is = refl
      stmts_are around all (a_stmt f fs) is = let both = and_parts _ _ is in rw (stmt_is around all f both.0, stmts_are around all fs both.1) refl

      branches_are : (around : List ℕ) → HasAll frugal.types around → (branches : BranchesForm) → are_frugal_branches frugal branches ≡ true
          → branches_nest frugal.types callees around branches ≡ true
      branches_are around all (otherwise fs) is = stmts_are around all fs is
      branches_are around all (a_branch e fs branches) is =
          let both = and_parts _ _ is in rw (stmts_are around all fs both.0, branches_are around all branches both.1) refl

      handlers_are : (around : List ℕ) → HasAll frugal.types around → (hs : HandlersForm) → are_frugal_handlers frugal hs ≡ true
          → handlers_nest frugal.types callees around hs ≡ true
      handlers_are around all no_handlers is = refl
      handlers_are around all (a_handler choices fs hs) is =
          let both = and_parts _ _ is in rw (stmts_are around all fs both.0, handlers_are around all hs both.1) refl

    -- A body nests where these collections are open, where those nest so that it calls.
    body_is : (b : BodyForm) (around : List ℕ) → HasAll frugal.types around → is_frugal_body frugal b ≡ true → body_nests frugal.types callees b around ≡ true
    body_is b around all is =
        let three = frugal_parts frugal b is in
        let inside = more_open frugal.types (collected b.declarations) around all in
        rw (
          part_is around all b.declarations three.0,
          stmts_are (collected b.declarations ++ around) inside b.statements three.1,
          handlers_are (collected b.declarations ++ around) inside b.handlers three.2,
        ) refl

-- One procedure more, in step.
one_more : (types : List TypeForm) (allowance : List Bool) (nests : Callees) (mark : Bool) (nest : (around : List ℕ) → Bool) → InStep types allowance nests
    → (mark ≡ true → (around : List ℕ) → HasAll types around → nest around ≡ true) → InStep types (allowance ++ mark ∷ []) (nests ++ nest ∷ [])
one_more types [] [] mark nest step more = (more, tt)
one_more types [] (n ∷ ns) mark nest step more = absurd step
one_more types (m ∷ ms) [] mark nest step more = absurd step
one_more types (m ∷ ms) (n ∷ ns) mark nest step more = (step.0, one_more types ms ns mark nest step.1 more)

all_step : (types : List TypeForm) → KindsOpen types → (bodies : List BodyForm) (allowance : List Bool) (nests : Callees) → InStep types allowance nests
    → InStep types (frugal_from types allowance bodies) (callees_from types nests bodies)
all_step types kinds [] allowance nests step = step
all_step types kinds (b ∷ bodies) allowance nests step =
    let frugal = called_by types allowance (length b.formals) in
    all_step types kinds bodies (allowance ++ is_frugal_body frugal b ∷ []) (nests ++ body_nests types nests b ∷ [])
    (one_more types allowance nests (is_frugal_body frugal b) (body_nests types nests b) step
    (λ is around all. body_is frugal kinds nests (step_nests types allowance nests step) b around all is))

-- The body of a frugal procedure nests wherever the collections of all access types are open, whatever it frees and declares.
pub frugal_nests : (p : ProgramForm) → KindsOpen p.types → (number : ℕ) → slice_index_or (frugal_procedures p) number false ≡ true → (around : List ℕ)
    → HasAll p.types around → call_nests (slice_get (callees_of p) number) around ≡ true
frugal_nests p kinds number is around all =
    step_nests p.types (frugal_procedures p) (callees_of p) (all_step p.types kinds p.bodies [] [] tt) number is around all

-- What a body goes by that calls nothing.
abbrev pub calling_none : List TypeForm → Thrift
calling_none types = record { types = types; unadjusted = []; unfinalized = []; untracked = false; procedures = []; operation = false; formals = 0 }

-- Such a body nests so, whatever calls create.
pub lone_nests : (types : List TypeForm) → KindsOpen types → (callees : Callees) (b : BodyForm) (around : List ℕ) → HasAll types around → is_frugal_body (calling_none types) b ≡ true
    → body_nests types callees b around ≡ true
lone_nests types kinds callees b around all is = body_is (calling_none types) kinds callees (λ number called around' all'. absurd (cc called)) b around all is
