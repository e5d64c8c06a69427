-- Where collections are created: the objects that an object's components name belong to a master that lasts at least as long as its own (3.10.2).

use Rattle.std.specs.Prelude.{◌≡◌, ℕ, Bool, true, false, ◌&&◌, ◌||◌, ◌==◌, not, List, [], ◌∷◌, ◌++◌, Option, Some, None}
use Rattle.std.specs.List.{list_all, slice_get}
use Rattle.ada_program.specs.declared.program.ComponentKind.{ComponentKind}
use Rattle.ada_program.specs.declared.program.ComponentKind.TheVariants as component
use Rattle.ada_program.specs.Form.{DeclarationForm, creates_pool, collects, declares, declares_record, StmtForm, skips, assigns, assigns_record, frees, gets, writes, writes_text, chooses, repeats, counts, exits, calls, returns, raises, encloses, StmtsForm, no_stmts, a_stmt, BranchesForm, otherwise, a_branch, HandlersForm, no_handlers, a_handler}
use Rattle.ada_program.specs.ProgramForm.{TypeForm, BodyForm, ProgramForm}
use Rattle.ada_program.specs.WellFormed.{reached_components}

-- The access types whose collections declarations create (7.6.1).
abbrev pub collected : List DeclarationForm → List ℕ
collected [] = []
collected (creates_pool pool ∷ ds) = collected ds
collected (collects access ∷ ds) = access ∷ collected ds
collected (declares x right ∷ ds) = collected ds
collected (declares_record x object initial ∷ ds) = collected ds

-- The types by which the record objects are known that declarations create.
abbrev pub record_objects : List DeclarationForm → List ℕ
record_objects [] = []
record_objects (creates_pool pool ∷ ds) = record_objects ds
record_objects (collects access ∷ ds) = record_objects ds
record_objects (declares x right ∷ ds) = record_objects ds
record_objects (declares_record x object initial ∷ ds) = object ∷ record_objects ds

-- Is the number one of these?
abbrev pub is_one_of : List ℕ → ℕ → Bool
is_one_of [] t = false
is_one_of (u ∷ us) t = (u == t) || is_one_of us t

-- A component holds no access value (3.8), or values of an access type whose collection is open.
abbrev pub kind_is_open : (there : List ℕ) → ComponentKind → Bool
kind_is_open there (component.Integer initial) = true
kind_is_open there (component.Boolean initial) = true
kind_is_open there (component.Access access) = is_one_of there access.0

-- So does each component of an object, if the type is an access type.
abbrev pub are_open : (there : List ℕ) → Option (List ComponentKind) → Bool
are_open there None = true
are_open there (Some components) = list_all (kind_is_open there) components

-- The collection of an access type is created in a part, where these are open around it, and those of the part with them: it is not open around
-- it already, and what the components of its objects name lies in collections that are open then.
abbrev pub collection_nests : List TypeForm → (around there : List ℕ) → (access : ℕ) → Bool
collection_nests types around there access = not (is_one_of around access) && are_open there (reached_components types access)

-- What the components of a record object name lies in collections that are open.
abbrev pub record_nests : List TypeForm → (there : List ℕ) → (object : ℕ) → Bool
record_nests types there object = are_open there (reached_components types object)

-- So it is of all collections and all record objects of a declarative part.
abbrev pub part_nests : List TypeForm → (around : List ℕ) → List DeclarationForm → Bool
part_nests types around ds =
    list_all (collection_nests types around (collected ds ++ around)) (collected ds) && list_all (record_nests types (collected ds ++ around)) (record_objects ds)

-- Whether what calls create nests, where these are open around a call: of each procedure, by its number.
abbrev pub Callees : Type 0
Callees = List ((around : List ℕ) → Bool)

-- So it does of one procedure, if there is one: as if its body stood where it is called (6.4).
abbrev pub call_nests : Option ((around : List ℕ) → Bool) → (around : List ℕ) → Bool
call_nests None around = false
call_nests (Some nests) around = nests around

abbrev mutual
  -- So are the collections of the blocks in a statement (5.6), where these are open around it.
  pub statement_nests : List TypeForm → Callees → (around : List ℕ) → StmtForm → Bool
  statement_nests types callees around skips = true
  statement_nests types callees around (assigns target right) = true
  statement_nests types callees around (assigns_record target items) = true
  statement_nests types callees around (frees access path) = true
  statement_nests types callees around (gets target) = true
  statement_nests types callees around (writes e) = true
  statement_nests types callees around (writes_text text) = true
  statement_nests types callees around (chooses branches) = branches_nest types callees around branches
  statement_nests types callees around (repeats condition fs end_spot) = statements_nest types callees around fs
  statement_nests types callees around (counts x low high fs end_spot) = statements_nest types callees around fs
  statement_nests types callees around (exits condition spot) = true
  statement_nests types callees around (calls procedure actuals) = call_nests (slice_get callees procedure) around
  statement_nests types callees around (returns spot) = true
  statement_nests types callees around (raises e) = true
  statement_nests types callees around (encloses ds fs hs) =
      part_nests types around ds && statements_nest types callees (collected ds ++ around) fs && handlers_nest types callees (collected ds ++ around) hs

  -- The collections of the blocks in statements.
  pub statements_nest : List TypeForm → Callees → (around : List ℕ) → StmtsForm → Bool
  statements_nest types callees around no_stmts = true
  statements_nest types callees around (a_stmt f fs) = statement_nests types callees around f && statements_nest types callees around fs

  -- The collections of the blocks in branches.
  pub branches_nest : List TypeForm → Callees → (around : List ℕ) → BranchesForm → Bool
  branches_nest types callees around (otherwise fs) = statements_nest types callees around fs
  branches_nest types callees around (a_branch e fs branches) = statements_nest types callees around fs && branches_nest types callees around branches

  -- The collections of the blocks in handlers.
  pub handlers_nest : List TypeForm → Callees → (around : List ℕ) → HandlersForm → Bool
  handlers_nest types callees around no_handlers = true
  handlers_nest types callees around (a_handler choices fs hs) = statements_nest types callees around fs && handlers_nest types callees around hs

-- All that a body creates.
abbrev pub body_nests : List TypeForm → Callees → BodyForm → (around : List ℕ) → Bool
body_nests types callees b around =
    part_nests types around b.declarations && statements_nest types callees (collected b.declarations ++ around) b.statements &&
    handlers_nest types callees (collected b.declarations ++ around) b.handlers

-- What calls of these procedures create, behind others: each calls those before it.
abbrev pub callees_from : List TypeForm → Callees → List BodyForm → Callees
callees_from types callees [] = callees
callees_from types callees (b ∷ bs) = callees_from types (callees ++ body_nests types callees b ∷ []) bs

-- What calls of the procedures of a program create.
abbrev pub callees_of : ProgramForm → Callees
callees_of p = callees_from p.types [] p.bodies

-- All collections of a program: no object lies in a collection that lasts longer than one in which its components' objects lie (3.10.2, 7.6.1).
pub record CollectionsNest (p : ProgramForm) : Type 0 where
  pub declarations : part_nests p.types [] p.declarations ≡ true
  pub statements : statements_nest p.types (callees_of p) (collected p.declarations) p.statements ≡ true
  pub handlers : handlers_nest p.types (callees_of p) (collected p.declarations) p.handlers ≡ true
