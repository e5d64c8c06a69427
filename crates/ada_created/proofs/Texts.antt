-- The text of a well-formed program creates the collection of each access type once, and no others (7.6.1): so it is with the collections of all of its
-- declarative parts.

use Rattle.std.proofs.Common.{◌≡◌, ℕ, ◌+◌, ◌≤◌, ◌&&◌, Bool, true, false, List, [], ◌∷◌, ◌++◌, map, flat_map, length, zero, suc, arith, refl}
use Rattle.std.specs.List.{list_all}
use Rattle.ada_program.specs.declared.program.ScalarType.TheVariants.{Integer, Boolean}
use Rattle.ada_program.specs.Form.{DeclarationForm, creates_pool, collects, declares, declares_record, StmtForm, skips, assigns, assigns_record, frees, gets, writes, writes_text, chooses, repeats, counts, exits, calls, returns, raises, encloses, StmtsForm, no_stmts, a_stmt, BranchesForm, otherwise, a_branch, HandlersForm, no_handlers, a_handler}
use Rattle.ada_program.specs.ProgramForm.{TypeForm, VariableForm, BodyForm, ProgramForm, main_body}
use Rattle.ada_program.specs.WellFormed.{IsWellFormed, Profile, Creation, creation, created_by, created_by_all, created_by_branches, created_by_handlers, created_in, created_in_all, is_access, is_type, has_type, scalar_of, variable_kind, variable_fits, creates_from, collections_first, collection_fits, initial_fits, declarations_fit, condition_fits, has_statement, choice_fits, statement_fits, stmts_fit, branches_fit, handlers_fit, profile_of, callable_in, body_fits, bodies_fit}
use Rattle.ada_program.specs.Nested.{collected}
use Rattle.ada_operations.specs.Created.{stmt_collections, stmts_collections, branches_collections, handlers_collections, body_collections, collections_of}
use Rattle.ada_scopes.proofs.Counts.{and_left, and_right, times, all_times}
use Rattle.ada_scopes.proofs.Texts.{makes, all_once}
use Rattle.ada_created.proofs.Control.{Each, join}
use Rattle.ada_created.proofs.Places.{total}

-- How often the text creates the collection of a type.
module _ (t : ℕ) where
  total_both : (us vs : List (List ℕ)) → total t (us ++ vs) ≡ total t us + total t vs
  total_both [] vs = omega arith
  total_both (u ∷ us) vs = let h = total_both us vs in omega (arith, h)

  makes_both : (bs cs : List Creation) → makes t (bs ++ cs) ≡ makes t bs + makes t cs
  makes_both [] cs = omega arith
  makes_both (b ∷ bs) cs = let h = makes_both bs cs in omega (arith, h)

  -- Declarations create it as often as it is among their collections.
  declarations_make : (ds : List DeclarationForm) → makes t (map creation ds) ≡ times t (collected ds)
  declarations_make [] = refl
  declarations_make (creates_pool pool ∷ ds) = let h = declarations_make ds in omega (arith, h)
  declarations_make (collects access ∷ ds) = let h = declarations_make ds in omega (arith, h)
  declarations_make (declares x right ∷ ds) = let h = declarations_make ds in omega (arith, h)
  declarations_make (declares_record x u initial ∷ ds) = let h = declarations_make ds in omega (arith, h)

  -- So it is with a body or a block: its own part, its statements and its handlers.
  part_makes : (ds : List DeclarationForm) (fs : StmtsForm) (hs : HandlersForm) → makes t (created_by_all fs) ≡ total t (stmts_collections fs)
      → makes t (created_by_handlers hs) ≡ total t (handlers_collections hs)
      → makes t (map creation ds ++ created_by_all fs ++ created_by_handlers hs)
      ≡ total t (collected ds ∷ stmts_collections fs ++ handlers_collections hs)
  part_makes ds fs hs inner handled =
      let own = declarations_make ds in
      let outer = makes_both (map creation ds ++ created_by_all fs) (created_by_handlers hs) in
      let first = makes_both (map creation ds) (created_by_all fs) in
      let others = total_both (stmts_collections fs) (handlers_collections hs) in
      omega (arith, own, inner, handled, outer, first, others)

  mutual
    stmt_makes : (f : StmtForm) → makes t (created_by f) ≡ total t (stmt_collections f)
    stmt_makes skips = refl
    stmt_makes (assigns target right) = refl
    stmt_makes (assigns_record target items) = refl
    stmt_makes (frees access path) = refl
    stmt_makes (gets target) = refl
    stmt_makes (writes e) = refl
    stmt_makes (writes_text text) = refl
    stmt_makes (chooses branches) = branches_make branches
    stmt_makes (repeats condition fs end_spot) = stmts_make fs
    stmt_makes (counts x low high fs end_spot) = let h = stmts_make fs in omega (arith, h)
    stmt_makes (exits condition spot) = refl
    stmt_makes (calls procedure actuals) = refl
    stmt_makes (returns spot) = refl
    stmt_makes (raises e) = refl
    stmt_makes (encloses ds fs hs) = part_makes ds fs hs (stmts_make fs) (handlers_make hs)

    stmts_make : (fs : StmtsForm) → makes t (created_by_all fs) ≡ total t (stmts_collections fs)
    stmts_make no_stmts = refl
    stmts_make (a_stmt f fs) =
        let own = stmt_makes f in
        let rest = stmts_make fs in
        let made = makes_both (created_by f) (created_by_all fs) in
        let both = total_both (stmt_collections f) (stmts_collections fs) in
        omega (arith, own, rest, made, both)

    branches_make : (branches : BranchesForm) → makes t (created_by_branches branches) ≡ total t (branches_collections branches)
    branches_make (otherwise fs) = stmts_make fs
    branches_make (a_branch e fs branches) =
        let own = stmts_make fs in
        let rest = branches_make branches in
        let made = makes_both (created_by_all fs) (created_by_branches branches) in
        let both = total_both (stmts_collections fs) (branches_collections branches) in
        omega (arith, own, rest, made, both)

    handlers_make : (hs : HandlersForm) → makes t (created_by_handlers hs) ≡ total t (handlers_collections hs)
    handlers_make no_handlers = refl
    handlers_make (a_handler choices fs hs) =
        let own = stmts_make fs in
        let rest = handlers_make hs in
        let made = makes_both (created_by_all fs) (created_by_handlers hs) in
        let both = total_both (stmts_collections fs) (handlers_collections hs) in
        omega (arith, own, rest, made, both)

  body_makes : (b : BodyForm) → makes t (created_in b) ≡ total t (body_collections b)
  body_makes b = part_makes b.declarations b.statements b.handlers (stmts_make b.statements) (handlers_make b.handlers)

  bodies_make : (bs : List BodyForm) → makes t (created_in_all bs) ≡ total t (flat_map body_collections bs)
  bodies_make [] = refl
  bodies_make (b ∷ bs) =
      let own = body_makes b in
      let rest = bodies_make bs in
      let made = makes_both (created_in b) (created_in_all bs) in
      let both = total_both (body_collections b) (flat_map body_collections bs) in
      omega (arith, own, rest, made, both)

  program_makes : (main : BodyForm) (bs : List BodyForm)
      → makes t (created_in_all bs ++ created_in main) ≡ total t (body_collections main ++ flat_map body_collections bs)
  program_makes main bs =
      let own = body_makes main in
      let rest = bodies_make bs in
      let made = makes_both (created_in_all bs) (created_in main) in
      let both = total_both (body_collections main) (flat_map body_collections bs) in
      omega (arith, own, rest, made, both)

-- All of these are access types.
abbrev pub AllAccess : List TypeForm → List ℕ → Type 0
AllAccess types us = list_all (is_access types) us ≡ true

-- The collections that declarations create are those of access types.
collected_access : (types : List TypeForm) (ds : List DeclarationForm) → list_all (collection_fits types) ds ≡ true → AllAccess types (collected ds)
collected_access types [] fits = refl
collected_access types (creates_pool pool ∷ ds) fits = collected_access types ds fits
collected_access types (declares x right ∷ ds) fits = collected_access types ds fits
collected_access types (declares_record x u initial ∷ ds) fits = collected_access types ds fits
collected_access types (collects access ∷ ds) fits =
    rw (and_left (is_access types access) (list_all (collection_fits types) ds) fits)
    (collected_access types ds (and_right (is_access types access) (list_all (collection_fits types) ds) fits))

-- So are those of the text that fits.
module _ (types : List TypeForm) (variables : List VariableForm) (texts exceptions : List (List ℕ)) (callable : List Profile) where
  part_accesses : (ds : List DeclarationForm) → declarations_fit types variables ds ≡ true → AllAccess types (collected ds)
  part_accesses ds fits =
      let first = collections_first ds in
      let own = list_all (collection_fits types) ds in
      collected_access types ds (and_right first own (and_left (first && own) (list_all (initial_fits types variables) ds) fits))

  mutual
    stmt_accesses : (f : StmtForm) (inside : Bool) → statement_fits types variables texts exceptions callable inside f ≡ true
        → Each (AllAccess types) (stmt_collections f)
    stmt_accesses skips inside fits = tt
    stmt_accesses (assigns target right) inside fits = tt
    stmt_accesses (assigns_record target items) inside fits = tt
    stmt_accesses (frees access path) inside fits = tt
    stmt_accesses (gets target) inside fits = tt
    stmt_accesses (writes e) inside fits = tt
    stmt_accesses (writes_text text) inside fits = tt
    stmt_accesses (chooses branches) inside fits = branches_access branches inside fits
    stmt_accesses (repeats condition fs end_spot) inside fits =
        stmts_access fs true (and_right (condition_fits types variables condition && has_statement fs) (stmts_fit types variables texts exceptions callable true fs) fits)
    stmt_accesses (counts x low high fs end_spot) inside fits =
        stmts_access fs true
        (and_right (is_type Integer (scalar_of (variable_kind variables x)) && has_type types variables Integer low && has_type types variables Integer high && has_statement fs)
        (stmts_fit types variables texts exceptions callable true fs) fits)
    stmt_accesses (exits condition spot) inside fits = tt
    stmt_accesses (calls procedure actuals) inside fits = tt
    stmt_accesses (returns spot) inside fits = tt
    stmt_accesses (raises e) inside fits = tt
    stmt_accesses (encloses ds fs hs) inside fits =
        let own = declarations_fit types variables ds in
        let inner = stmts_fit types variables texts exceptions callable inside fs in
        let handled = handlers_fit types variables texts exceptions callable inside hs in
        let two = and_left (own && inner) handled fits in (
          part_accesses ds (and_left own inner two),
          join (AllAccess types) (stmts_collections fs) (handlers_collections hs) (stmts_access fs inside (and_right own inner two))
              (handlers_access hs inside (and_right (own && inner) handled fits)),
        )

    stmts_access : (fs : StmtsForm) (inside : Bool) → stmts_fit types variables texts exceptions callable inside fs ≡ true
        → Each (AllAccess types) (stmts_collections fs)
    stmts_access no_stmts inside fits = tt
    stmts_access (a_stmt f fs) inside fits =
        let own = statement_fits types variables texts exceptions callable inside f in
        let rest = stmts_fit types variables texts exceptions callable inside fs in
        join (AllAccess types) (stmt_collections f) (stmts_collections fs) (stmt_accesses f inside (and_left own rest fits))
        (stmts_access fs inside (and_right own rest fits))

    branches_access : (branches : BranchesForm) (inside : Bool) → branches_fit types variables texts exceptions callable inside branches ≡ true
        → Each (AllAccess types) (branches_collections branches)
    branches_access (otherwise fs) inside fits = stmts_access fs inside fits
    branches_access (a_branch e fs branches) inside fits =
        let own = has_type types variables Boolean e in
        let inner = stmts_fit types variables texts exceptions callable inside fs in
        let rest = branches_fit types variables texts exceptions callable inside branches in
        join (AllAccess types) (stmts_collections fs) (branches_collections branches)
        (stmts_access fs inside (and_right own inner (and_left (own && inner) rest fits))) (branches_access branches inside (and_right (own && inner) rest fits))

    handlers_access : (hs : HandlersForm) (inside : Bool) → handlers_fit types variables texts exceptions callable inside hs ≡ true
        → Each (AllAccess types) (handlers_collections hs)
    handlers_access no_handlers inside fits = tt
    handlers_access (a_handler choices fs hs) inside fits =
        let chosen = list_all (choice_fits exceptions) choices && has_statement fs in
        let inner = stmts_fit types variables texts exceptions callable inside fs in
        let rest = handlers_fit types variables texts exceptions callable inside hs in
        join (AllAccess types) (stmts_collections fs) (handlers_collections hs)
        (stmts_access fs inside (and_right chosen inner (and_left (chosen && inner) rest fits))) (handlers_access hs inside (and_right (chosen && inner) rest fits))

-- So are those of bodies.
body_accesses : (types : List TypeForm) (texts exceptions : List (List ℕ)) (callable : List Profile) (b : BodyForm)
    → body_fits types texts exceptions callable b ≡ true → Each (AllAccess types) (body_collections b)
body_accesses types texts exceptions callable b fits =
    let known = list_all (variable_fits types) b.variables && creates_from (length b.variables) (length b.formals) (created_in b) in
    let own = declarations_fit types b.variables b.declarations in
    let inner = stmts_fit types b.variables texts exceptions callable false b.statements in
    let handled = handlers_fit types b.variables texts exceptions callable false b.handlers in
    let three = and_left (known && own && inner) handled fits in
    let two = and_left (known && own) inner three in (
      part_accesses types b.variables texts exceptions callable b.declarations (and_right known own two),
      join (AllAccess types) (stmts_collections b.statements) (handlers_collections b.handlers)
          (stmts_access types b.variables texts exceptions callable b.statements false (and_right (known && own) inner three))
          (handlers_access types b.variables texts exceptions callable b.handlers false (and_right (known && own && inner) handled fits)),
    )

bodies_access : (types : List TypeForm) (texts exceptions : List (List ℕ)) (callable : List Profile) (bs : List BodyForm)
    → bodies_fit types texts exceptions callable bs ≡ true → Each (AllAccess types) (flat_map body_collections bs)
bodies_access types texts exceptions callable [] fits = tt
bodies_access types texts exceptions callable (b ∷ bs) fits =
    let own = body_fits types texts exceptions callable b in
    let rest = bodies_fit types texts exceptions (callable ++ profile_of b ∷ []) bs in
    join (AllAccess types) (body_collections b) (flat_map body_collections bs) (body_accesses types texts exceptions callable b (and_left own rest fits))
    (bodies_access types texts exceptions (callable ++ profile_of b ∷ []) bs (and_right own rest fits))

-- So are those of a well-formed program.
pub accesses : (p : ProgramForm) → IsWellFormed p → Each (AllAccess p.types) (collections_of p)
accesses p well =
    join (AllAccess p.types) (body_collections (main_body p)) (flat_map body_collections p.bodies) (
      collected_access p.types p.declarations well.collections_fit,
      join (AllAccess p.types) (stmts_collections p.statements) (handlers_collections p.handlers)
          (stmts_access p.types p.variables p.texts p.exceptions (callable_in p) p.statements false well.statements_fit)
          (handlers_access p.types p.variables p.texts p.exceptions (callable_in p) p.handlers false well.handlers_fit),
    )
    (bodies_access p.types p.texts p.exceptions [] p.bodies well.bodies_fit)

-- What is created somewhere is the collection of an access type.
is_there : (types : List TypeForm) (t : ℕ) (parts : List (List ℕ)) → Each (AllAccess types) parts → 1 ≤ total t parts → is_access types t ≡ true
is_there types t [] all some = absurd (omega (arith, some))
is_there types t (us ∷ parts) all some = by (times t us) refl (is_there types t parts all.1)
  where
    by : (n : ℕ) → times t us ≡ n → (1 ≤ total t parts → is_access types t ≡ true) → is_access types t ≡ true
    by zero none later = later (omega (arith, none, some))
    by (suc n) more later = all_times (is_access types) us all.0 t (omega (arith, more))

-- A well-formed program creates no collection twice.
pub created_once : (p : ProgramForm) → IsWellFormed p → (t : ℕ) → total t (collections_of p) ≤ 1
created_once p well t = by (total t (collections_of p)) refl
  where
    by : (n : ℕ) → total t (collections_of p) ≡ n → total t (collections_of p) ≤ 1
    by zero none = omega (arith, none)
    by (suc n) more =
        let made = all_once p well t (is_there p.types t (collections_of p) (accesses p well) (omega (arith, more))) in
        let same = program_makes t (main_body p) p.bodies in
        omega (arith, made, same)
