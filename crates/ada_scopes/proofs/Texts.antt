-- What nests in the text of a program: each part opens collections once, none that is open around it, and those of components with them.

use Rattle.std.proofs.Common.{◌≡◌, ℕ, zero, suc, ◌+◌, ◌≤◌, ◌==◌, ◌&&◌, cond, not, count_by, Bool, true, false, List, [], ◌∷◌, ◌++◌, map, Some, arith, refl, sym, ap, ◌∙◌, subst}
use Rattle.std.specs.Prelude.{is_some}
use Rattle.std.proofs.lemmas.Bool.{eqb-true, not-true}
use Rattle.std.proofs.lemmas.List.Sums.{sum_by-cons}
use Rattle.std.specs.List.{slice_get, list_all}
use Rattle.ada_program.specs.declared.program.ScalarType.TheVariants.{Integer, Boolean}
use Rattle.ada_program.specs.Form.{DeclarationForm, creates_pool, collects, declares, declares_record, StmtForm, skips, assigns, assigns_record, frees, gets, writes, writes_text, chooses, repeats, counts, exits, calls, returns, raises, encloses, StmtsForm, no_stmts, a_stmt, BranchesForm, otherwise, a_branch, HandlersForm, no_handlers, a_handler}
use Rattle.ada_program.specs.ProgramForm.{TypeForm, record_of, access_to, object_of, VariableForm, BodyForm, ProgramForm}
use Rattle.ada_program.specs.WellFormed.{IsWellFormed, Profile, all_creations, Creation, of_pool, of_collection, of_variable, creation, created_by, created_by_all, created_by_branches, created_by_handlers, is_access, designated_in, collections_first, collection_fits, is_collection, has_collections, has_type, variable_fits, is_record_object, object_named, record_initial_fits, initial_fits, declarations_fit, is_type, scalar_of, variable_kind, condition_fits, has_statement, choice_fits, statement_fits, stmts_fit, branches_fit, handlers_fit, reached_components}
use Rattle.ada_program.specs.Nested.{Callees, call_nests, collected, record_objects, is_one_of, are_open, collection_nests, record_nests, part_nests, statement_nests, statements_nest, branches_nest, handlers_nest}
use Rattle.ada_typed.proofs.Objects.{record_no_access}
use Rattle.ada_scopes.proofs.Counts.{and_left, and_right, one, times, times_of, times_none, all_times}

-- What the components of the record objects name that declarations create lies in collections that are open; and their types are no access types.
abbrev pub RecordsNest : List TypeForm → (there : List ℕ) → List DeclarationForm → Type 0
RecordsNest types there [] = Unit {0}
RecordsNest types there (creates_pool pool ∷ ds) = RecordsNest types there ds
RecordsNest types there (collects access ∷ ds) = RecordsNest types there ds
RecordsNest types there (declares x right ∷ ds) = RecordsNest types there ds
RecordsNest types there (declares_record x t initial ∷ ds) = (is_access types t ≡ false) × (are_open there (reached_components types t) ≡ true) × RecordsNest types there ds

-- A part where these are open around it: its collections come before its first variable, each once, none of them is open around it, and those
-- that its objects' components need are open with them. They are collections of access types, and what its record objects need is open, too.
pub record PartNests (types : List TypeForm) (around : List ℕ) (ds : List DeclarationForm) : Type 0 where
  pub first : collections_first ds ≡ true
  pub once : (t : ℕ) → times t (collected ds) ≤ 1
  pub away : (t : ℕ) → 1 ≤ times t (collected ds) → times t around ≡ 0
  pub needs : (t : ℕ) → 1 ≤ times t (collected ds) → are_open (collected ds ++ around) (reached_components types t) ≡ true
  pub accesses : (t : ℕ) → 1 ≤ times t (collected ds) → is_access types t ≡ true
  pub records : RecordsNest types (collected ds ++ around) ds

abbrev mutual
  pub StatementNests : List TypeForm → Callees → List ℕ → StmtForm → Type 0
  StatementNests types callees around skips = Unit {0}
  StatementNests types callees around (assigns target right) = Unit {0}
  StatementNests types callees around (assigns_record target items) = Unit {0}
  StatementNests types callees around (frees access path) = Unit {0}
  StatementNests types callees around (gets target) = Unit {0}
  StatementNests types callees around (writes e) = Unit {0}
  StatementNests types callees around (writes_text text) = Unit {0}
  StatementNests types callees around (chooses branches) = BranchesNest types callees around branches
  StatementNests types callees around (repeats condition fs end_spot) = StatementsNest types callees around fs
  StatementNests types callees around (counts x low high fs end_spot) = StatementsNest types callees around fs
  StatementNests types callees around (exits condition spot) = Unit {0}
  StatementNests types callees around (calls procedure actuals) = call_nests (slice_get callees procedure) around ≡ true
  StatementNests types callees around (returns spot) = Unit {0}
  StatementNests types callees around (raises e) = Unit {0}
  StatementNests types callees around (encloses ds fs hs) =
      PartNests types around ds × StatementsNest types callees (collected ds ++ around) fs × HandlersNest types callees (collected ds ++ around) hs

  pub StatementsNest : List TypeForm → Callees → List ℕ → StmtsForm → Type 0
  StatementsNest types callees around no_stmts = Unit {0}
  StatementsNest types callees around (a_stmt f fs) = StatementNests types callees around f × StatementsNest types callees around fs

  pub BranchesNest : List TypeForm → Callees → List ℕ → BranchesForm → Type 0
  BranchesNest types callees around (otherwise fs) = StatementsNest types callees around fs
  BranchesNest types callees around (a_branch e fs branches) = StatementsNest types callees around fs × BranchesNest types callees around branches

  pub HandlersNest : List TypeForm → Callees → List ℕ → HandlersForm → Type 0
  HandlersNest types callees around no_handlers = Unit {0}
  HandlersNest types callees around (a_handler choices fs hs) = StatementsNest types callees around fs × HandlersNest types callees around hs

-- So it is of a body, where these are open around it.
pub record BodyNests (types : List TypeForm) (callees : Callees) (around : List ℕ) (b : BodyForm) : Type 0 where
  pub part : PartNests types around b.declarations
  pub statements : StatementsNest types callees (collected b.declarations ++ around) b.statements
  pub handlers : HandlersNest types callees (collected b.declarations ++ around) b.handlers

-- Wherever a call of one of these bodies nests, the body nests as if it stood there.
abbrev pub BodiesNest : List TypeForm → Callees → List BodyForm → Type 0
BodiesNest types callees bodies =
    (procedure : ℕ) (b : BodyForm) (around : List ℕ) → slice_get bodies procedure ≡ Some b → call_nests (slice_get callees procedure) around ≡ true → BodyNests types callees around b

-- How often creations create the collection of a type.
abbrev pub makes_by : ℕ → Creation → ℕ
makes_by t (of_pool pool) = 0
makes_by t (of_collection access) = one (access == t)
makes_by t (of_variable x) = 0

abbrev pub makes : ℕ → List Creation → ℕ
makes t [] = 0
makes t (c ∷ cs) = makes_by t c + makes t cs

makes_append : (t : ℕ) (bs cs : List Creation) → makes t (bs ++ cs) ≡ makes t bs + makes t cs
makes_append t [] cs = omega arith
makes_append t (b ∷ bs) cs = let h = makes_append t bs cs in omega (arith, h)

one_is : (b : Bool) → one b ≡ cond b 1 0
one_is true = refl
one_is false = refl

makes_one : (t : ℕ) (c : Creation) → makes_by t c ≡ cond (is_collection t c) 1 0
makes_one t (of_pool pool) = refl
makes_one t (of_collection access) = one_is (access == t)
makes_one t (of_variable x) = refl

makes_is : (t : ℕ) (cs : List Creation) → makes t cs ≡ count_by (is_collection t) cs
makes_is t [] = refl
makes_is t (c ∷ cs) =
    let all = sum_by-cons (λ x. cond (is_collection t x) 1 0) c cs in
    let head = makes_one t c in
    let rest = makes_is t cs in
    omega (arith, all, head, rest)

times_makes : (t : ℕ) (ds : List DeclarationForm) → makes t (map creation ds) ≡ times t (collected ds)
times_makes t [] = refl
times_makes t (creates_pool pool ∷ ds) = let h = times_makes t ds in omega (arith, h)
times_makes t (collects access ∷ ds) = let h = times_makes t ds in omega (arith, h)
times_makes t (declares x right ∷ ds) = let h = times_makes t ds in omega (arith, h)
times_makes t (declares_record x u initial ∷ ds) = let h = times_makes t ds in omega (arith, h)

-- No access type's collection is created twice.
abbrev pub Once : List TypeForm → List Creation → Type 0
Once types cs = (t : ℕ) → is_access types t ≡ true → makes t cs ≤ 1

pub once_left : (types : List TypeForm) (bs cs : List Creation) → Once types (bs ++ cs) → Once types bs
once_left types bs cs once t is = let h = once t is in let all = makes_append t bs cs in omega (arith, h, all)

pub once_right : (types : List TypeForm) (bs cs : List Creation) → Once types (bs ++ cs) → Once types cs
once_right types bs cs once t is = let h = once t is in let all = makes_append t bs cs in omega (arith, h, all)

-- A well-formed program creates each collection once.
this_one : (cs : List Creation) (k i : ℕ) (types : List TypeForm) → has_collections cs k types ≡ true → is_some (designated_in (slice_get types i)) ≡ true → count_by (is_collection (k + i)) cs ≡ 1
this_one cs k i [] has is = absurd (cc)
this_one cs k zero (record_of name parts components finalization ∷ types) has is = absurd (cc)
this_one cs k zero (object_of record_type ∷ types) has is = absurd (cc)
this_one cs k zero (access_to name designated pool ∷ types) has is =
    let at_k : count_by (is_collection k) cs ≡ 1 = eqb-true (count_by (is_collection k) cs) 1 (and_left (count_by (is_collection k) cs == 1) (has_collections cs (k + 1) types) has) in
    let same : k + 0 ≡ k = omega arith in
    ap (λ n. count_by (is_collection n) cs) same ∙ at_k
this_one cs k (suc i) (record_of name parts components finalization ∷ types) has is =
    let same : k + suc i ≡ (k + 1) + i = omega arith in
    ap (λ n. count_by (is_collection n) cs) same ∙ this_one cs (k + 1) i types has is
this_one cs k (suc i) (object_of record_type ∷ types) has is =
    let same : k + suc i ≡ (k + 1) + i = omega arith in
    ap (λ n. count_by (is_collection n) cs) same ∙ this_one cs (k + 1) i types has is
this_one cs k (suc i) (access_to name designated pool ∷ types) has is =
    let same : k + suc i ≡ (k + 1) + i = omega arith in
    ap (λ n. count_by (is_collection n) cs) same ∙ this_one cs (k + 1) i types (and_right (count_by (is_collection k) cs == 1) (has_collections cs (k + 1) types) has) is

pub all_once : (p : ProgramForm) → IsWellFormed p → Once p.types (all_creations p)
all_once p well t is =
    let same : 0 + t ≡ t = omega arith in
    let counted = this_one (all_creations p) 0 t p.types well.has_one_each is in
    let named : count_by (is_collection t) (all_creations p) ≡ 1 = ap (λ n. count_by (is_collection n) (all_creations p)) (sym same) ∙ counted in
    let made = makes_is t (all_creations p) in
    omega (arith, made, named)

-- What a part collects is of access types.
access_by : (types : List TypeForm) (access t n : ℕ) (b : Bool) → (access == t) ≡ b → is_access types access ≡ true → (1 ≤ n → is_access types t ≡ true) → 1 ≤ one b + n → is_access types t ≡ true
access_by types access t n true same is later le = subst (λ u. is_access types u ≡ true) (eqb-true access t same) is
access_by types access t n false same is later le = later (omega (arith, le))

collected_access : (types : List TypeForm) (ds : List DeclarationForm) (t : ℕ) → list_all (collection_fits types) ds ≡ true → 1 ≤ times t (collected ds) → is_access types t ≡ true
collected_access types [] t fits le = absurd (omega (arith, le))
collected_access types (creates_pool pool ∷ ds) t fits le = collected_access types ds t fits le
collected_access types (declares x right ∷ ds) t fits le = collected_access types ds t fits le
collected_access types (declares_record x u initial ∷ ds) t fits le = collected_access types ds t fits le
collected_access types (collects access ∷ ds) t fits le =
    access_by types access t (times t (collected ds)) (access == t) refl (and_left (is_access types access) (list_all (collection_fits types) ds) fits)
    (collected_access types ds t (and_right (is_access types access) (list_all (collection_fits types) ds) fits)) le

-- What a part's check says.
once_by : (types : List TypeForm) (ds : List DeclarationForm) (t : ℕ) (b : Bool) → is_one_of (collected ds) t ≡ b → list_all (collection_fits types) ds ≡ true → Once types (map creation ds) → times t (collected ds) ≤ 1
once_by types ds t true is fits once =
    let made = once t (collected_access types ds t fits (times_of (collected ds) t is)) in
    let same = times_makes t ds in
    omega (arith, made, same)
once_by types ds t false is fits once = let none = times_none (collected ds) t is in omega (arith, none)

records_hold : (types : List TypeForm) (variables : List VariableForm) (there : List ℕ) (ds : List DeclarationForm) → list_all (variable_fits types) variables ≡ true → list_all (initial_fits types variables) ds ≡ true → list_all (record_nests types there) (record_objects ds) ≡ true → RecordsNest types there ds
records_hold types variables there [] right initials nest = tt
records_hold types variables there (creates_pool pool ∷ ds) right initials nest =
    records_hold types variables there ds right (and_right (initial_fits types variables (creates_pool pool)) (list_all (initial_fits types variables) ds) initials) nest
records_hold types variables there (collects access ∷ ds) right initials nest =
    records_hold types variables there ds right (and_right (initial_fits types variables (collects access)) (list_all (initial_fits types variables) ds) initials) nest
records_hold types variables there (declares x value ∷ ds) right initials nest =
    records_hold types variables there ds right (and_right (initial_fits types variables (declares x value)) (list_all (initial_fits types variables) ds) initials) nest
records_hold types variables there (declares_record x t initial ∷ ds) right initials nest =
    let own = initial_fits types variables (declares_record x t initial) in
    let known = is_record_object t (variable_kind variables x) in
    let filled = record_initial_fits types variables x (object_named types (Some t)) initial in
    let others = list_all (initial_fits types variables) ds in
    let later = list_all (record_nests types there) (record_objects ds) in (
      record_no_access types variables x t right (and_left known filled (and_left own others initials)),
      and_left (record_nests types there t) later nest,
      records_hold types variables there ds right (and_right own others initials) (and_right (record_nests types there t) later nest),
    )

pub part_holds : (types : List TypeForm) (variables : List VariableForm) (around : List ℕ) (ds : List DeclarationForm) → list_all (variable_fits types) variables ≡ true → collections_first ds ≡ true → list_all (collection_fits types) ds ≡ true → list_all (initial_fits types variables) ds ≡ true → Once types (map creation ds) → part_nests types around ds ≡ true → PartNests types around ds
part_holds types variables around ds right first fits initials once both_nest = record {
  first = first;
  once = λ t. once_by types ds t (is_one_of (collected ds) t) refl fits once;
  away = λ t le. times_none around t (not-true (is_one_of around t) (and_left (not (is_one_of around t)) (are_open (collected ds ++ around) (reached_components types t)) (all_times (collection_nests types around (collected ds ++ around)) (collected ds) nests t le)));
  needs = λ t le. and_right (not (is_one_of around t)) (are_open (collected ds ++ around) (reached_components types t)) (all_times (collection_nests types around (collected ds ++ around)) (collected ds) nests t le);
  accesses = λ t le. collected_access types ds t fits le;
  records = records_hold types variables (collected ds ++ around) ds right initials
      (and_right (list_all (collection_nests types around (collected ds ++ around)) (collected ds)) (list_all (record_nests types (collected ds ++ around)) (record_objects ds)) both_nest);
}
  where
    nests : list_all (collection_nests types around (collected ds ++ around)) (collected ds) ≡ true
    nests = and_left (list_all (collection_nests types around (collected ds ++ around)) (collected ds)) (list_all (record_nests types (collected ds ++ around)) (record_objects ds)) both_nest

-- Where calls nest with some callees, they do with others.
abbrev pub CallsNest : Callees → Callees → Type 0
CallsNest before callees = (procedure : ℕ) (around : List ℕ) → call_nests (slice_get before procedure) around ≡ true → call_nests (slice_get callees procedure) around ≡ true

-- So it is of statements.
module _ (types : List TypeForm) (variables : List VariableForm) (texts exceptions : List (List ℕ)) (callable : List Profile) (right : list_all (variable_fits types) variables ≡ true) (before callees : Callees) (more : CallsNest before callees) where
  mutual
    statement_holds : (f : StmtForm) (inside : Bool) (around : List ℕ) → statement_fits types variables texts exceptions callable inside f ≡ true → Once types (created_by f) → statement_nests types before around f ≡ true → StatementNests types callees around f
    statement_holds skips inside around fits once nests = tt
    statement_holds (assigns target right) inside around fits once nests = tt
    statement_holds (assigns_record target items) inside around fits once nests = tt
    statement_holds (frees access path) inside around fits once nests = tt
    statement_holds (gets target) inside around fits once nests = tt
    statement_holds (writes e) inside around fits once nests = tt
    statement_holds (writes_text text) inside around fits once nests = tt
    statement_holds (chooses branches) inside around fits once nests = branches_hold branches inside around fits once nests
    statement_holds (repeats condition fs end_spot) inside around fits once nests =
        statements_hold fs true around (and_right (condition_fits types variables condition && has_statement fs) (stmts_fit types variables texts exceptions callable true fs) fits) once nests
    statement_holds (counts x low high fs end_spot) inside around fits once nests =
        statements_hold fs true around
        (and_right (is_type Integer (scalar_of (variable_kind variables x)) && has_type types variables Integer low && has_type types variables Integer high && has_statement fs) (stmts_fit types variables texts exceptions callable true fs) fits)
        (λ t is. let h = once t is in omega (arith, h)) nests
    statement_holds (exits condition spot) inside around fits once nests = tt
    statement_holds (calls procedure actuals) inside around fits once nests = more procedure around nests
    statement_holds (returns spot) inside around fits once nests = tt
    statement_holds (raises e) inside around fits once nests = tt
    statement_holds (encloses ds fs hs) inside around fits once nests =
        let part = part_nests types around ds in
        let inner = statements_nest types before (collected ds ++ around) fs in
        let handled = handlers_nest types before (collected ds ++ around) hs in
        let part_fits = declarations_fit types variables ds in
        let inner_fits = stmts_fit types variables texts exceptions callable inside fs in
        let handled_fits = handlers_fit types variables texts exceptions callable inside hs in
        let first_two = and_left (part && inner) handled nests in
        let fit_two = and_left (part_fits && inner_fits) handled_fits fits in
        let own_fits = and_left part_fits inner_fits fit_two in
        let leading = and_left (collections_first ds && list_all (collection_fits types) ds) (list_all (initial_fits types variables) ds) own_fits in
        let before = once_left types (map creation ds ++ created_by_all fs) (created_by_handlers hs) once in (
          part_holds types variables around ds right (and_left (collections_first ds) (list_all (collection_fits types) ds) leading) (and_right (collections_first ds) (list_all (collection_fits types) ds) leading)
              (and_right (collections_first ds && list_all (collection_fits types) ds) (list_all (initial_fits types variables) ds) own_fits)
              (once_left types (map creation ds) (created_by_all fs) before) (and_left part inner first_two),
          statements_hold fs inside (collected ds ++ around) (and_right part_fits inner_fits fit_two) (once_right types (map creation ds) (created_by_all fs) before) (and_right part inner first_two),
          handlers_hold hs inside (collected ds ++ around) (and_right (part_fits && inner_fits) handled_fits fits) (once_right types (map creation ds ++ created_by_all fs) (created_by_handlers hs) once) (and_right (part && inner) handled nests),
        )

    pub statements_hold : (fs : StmtsForm) (inside : Bool) (around : List ℕ) → stmts_fit types variables texts exceptions callable inside fs ≡ true → Once types (created_by_all fs) → statements_nest types before around fs ≡ true → StatementsNest types callees around fs
    statements_hold no_stmts inside around fits once nests = tt
    statements_hold (a_stmt f fs) inside around fits once nests = (
      statement_holds f inside around (and_left (statement_fits types variables texts exceptions callable inside f) (stmts_fit types variables texts exceptions callable inside fs) fits) (once_left types (created_by f) (created_by_all fs) once)
          (and_left (statement_nests types before around f) (statements_nest types before around fs) nests),
      statements_hold fs inside around (and_right (statement_fits types variables texts exceptions callable inside f) (stmts_fit types variables texts exceptions callable inside fs) fits) (once_right types (created_by f) (created_by_all fs) once)
          (and_right (statement_nests types before around f) (statements_nest types before around fs) nests),
    )

    branches_hold : (branches : BranchesForm) (inside : Bool) (around : List ℕ) → branches_fit types variables texts exceptions callable inside branches ≡ true → Once types (created_by_branches branches) → branches_nest types before around branches ≡ true → BranchesNest types callees around branches
    branches_hold (otherwise fs) inside around fits once nests = statements_hold fs inside around fits once nests
    branches_hold (a_branch e fs branches) inside around fits once nests =
        let own = has_type types variables Boolean e in
        let inner = stmts_fit types variables texts exceptions callable inside fs in
        let others = branches_fit types variables texts exceptions callable inside branches in (
          statements_hold fs inside around (and_right own inner (and_left (own && inner) others fits)) (once_left types (created_by_all fs) (created_by_branches branches) once)
              (and_left (statements_nest types before around fs) (branches_nest types before around branches) nests),
          branches_hold branches inside around (and_right (own && inner) others fits) (once_right types (created_by_all fs) (created_by_branches branches) once)
              (and_right (statements_nest types before around fs) (branches_nest types before around branches) nests),
        )

    pub handlers_hold : (hs : HandlersForm) (inside : Bool) (around : List ℕ) → handlers_fit types variables texts exceptions callable inside hs ≡ true → Once types (created_by_handlers hs) → handlers_nest types before around hs ≡ true → HandlersNest types callees around hs
    handlers_hold no_handlers inside around fits once nests = tt
    handlers_hold (a_handler choices fs hs) inside around fits once nests =
        let chosen = list_all (choice_fits exceptions) choices && has_statement fs in
        let inner = stmts_fit types variables texts exceptions callable inside fs in
        let others = handlers_fit types variables texts exceptions callable inside hs in (
          statements_hold fs inside around (and_right chosen inner (and_left (chosen && inner) others fits)) (once_left types (created_by_all fs) (created_by_handlers hs) once)
              (and_left (statements_nest types before around fs) (handlers_nest types before around hs) nests),
          handlers_hold hs inside around (and_right (chosen && inner) others fits) (once_right types (created_by_all fs) (created_by_handlers hs) once)
              (and_right (statements_nest types before around fs) (handlers_nest types before around hs) nests),
        )
