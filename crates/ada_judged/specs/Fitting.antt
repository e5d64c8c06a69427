-- The law: a body with tracked components is well formed as one with a variable for each of them, and says the same of exceptions, collections and frees.

use Rattle.std.specs.Prelude.{◌≡◌, ℕ, ◌+◌, ◌<◌, Bool, true, false, List, [], ◌∷◌, length, map, Option, Some, None}
use Rattle.std.specs.List.{list_all, slice_get}
use Rattle.ada_program.specs.declared.program.ComponentKind.{ComponentKind}
use Rattle.ada_program.specs.declared.program.Exception.{Exception}
use Rattle.ada_program.specs.declared.program.TypeNo.{TypeNo}
use Rattle.ada_program.specs.declared.program.VariableKind.{VariableKind}
use Rattle.ada_program.specs.declared.program.VariableKind.TheVariants as variable
use Rattle.ada_program.specs.Form.{PathForm, ExpressionForm, integer, boolean, reads, is_null, applied_to, chained, LinksForm, no_more_links, a_link, ItemForm, null_item, item_of_path, item_of_value, item_of_record, RightForm, nothing, value_of, allocates, allocates_default, computes, DeclarationForm, creates_pool, collects, declares, declares_record, StmtForm, skips, assigns, assigns_record, frees, gets, writes, writes_text, chooses, repeats, counts, exits, calls, returns, raises, encloses, StmtsForm, no_stmts, a_stmt, BranchesForm, otherwise, a_branch, HandlersForm, no_handlers, a_handler}
use Rattle.ada_program.specs.Handling.{is_taken}
use Rattle.ada_program.specs.ProgramForm.{TypeForm, VariableForm, BodyForm}
use Rattle.ada_program.specs.WellFormed.{creation, created_by, created_by_all, created_by_branches, created_by_handlers, variable_kind, is_borrower, selected_kind, path_kind, path_access, type_of, items_fit, right_fits, names_borrower, item_owns, lends_to, names_before, condition_fits, Profile, declarations_fit, has_statement, statement_fits, stmts_fit, branches_fit, handlers_fit, type_fits, variable_fits, created_in, body_fits}
use Rattle.ada_program.specs.Freed.{statement_frees_own, statements_free_own, branches_free_own, handlers_free_own, body_frees_own}
use Rattle.ada_program.specs.Nested.{Callees, collected, record_objects, statement_nests, statements_nest, branches_nest, handlers_nest, body_nests}
use Rattle.ada_effects.specs.Effects.{path_raises, expression_raises, items_raise, condition_raises, Implicit, Effects, right_raises, right_starts, declarations_raise, stmt_raises, stmts_raise, branches_raise, handlers_raise, right_frees, declarations_free, leaving_frees, stmt_frees, stmts_free, branches_free, handlers_free, passes, body_raises, body_frees}
use Rattle.ada_flow.specs.Tracking.{Tracks, seen, is_tracked, judged}
use Rattle.ada_tracked.specs.Forms.{seen_expression, seen_condition, seen_items, seen_right, seen_declarations, seen_stmts, seen_branches, seen_handlers}
use Rattle.ada_tracked.specs.Simple.{PathIsSimple, ExpressionIsSimple, ConditionIsSimple, ItemsAreSimple, RightIsSimple, DeclarationsAreSimple, StatementsAreSimple, BranchesAreSimple, HandlersAreSimple}

-- What is tracked.

-- A component of a record of this type is there, and of an access type (3.10).
abbrev pub IsOfAccess : List TypeForm → (object : TypeNo) → (component : ℕ) → Type 0
IsOfAccess types object c = (access : TypeNo) × (selected_kind types (Some (variable.Record object)) c ≡ Some (variable.Access access))

-- So is each of these.
abbrev pub AreOfAccess : List TypeForm → (object : TypeNo) → (components : List ℕ) → Type 0
AreOfAccess types object [] = Unit {0}
AreOfAccess types object (c ∷ cs) = IsOfAccess types object c × AreOfAccess types object cs

-- A body with these variables tracks these components of its formal parameter.
pub record TracksComponents (types : List TypeForm) (tracks : Tracks) (variables : List VariableForm) : Type 0 where
  -- the type by which the formal parameter is known
  pub object : TypeNo
  -- it is a record (6.2)
  pub formal : variable_kind variables 0 ≡ Some (variable.Record object)
  -- each component is there, and of an access type (3.10)
  pub components : AreOfAccess types object tracks.components
  -- what they hold stands behind what the variables hold
  pub behind : tracks.first ≡ length variables

-- Paths from the formal parameter.

-- A path from the formal parameter begins with a record object (4.1).
abbrev pub PathIsOfRecord : PathForm → Type 0
PathIsOfRecord path = path.root ≡ 0 → path.of_record ≡ true

abbrev mutual
  -- The paths of an expression do so.
  pub ExpressionIsOfRecord : ExpressionForm → Type 0
  ExpressionIsOfRecord (integer i) = Unit {0}
  ExpressionIsOfRecord (boolean b) = Unit {0}
  ExpressionIsOfRecord (reads path) = PathIsOfRecord path
  ExpressionIsOfRecord (is_null equal path) = PathIsOfRecord path
  ExpressionIsOfRecord (applied_to operator e) = ExpressionIsOfRecord e
  ExpressionIsOfRecord (chained e links) = ExpressionIsOfRecord e × LinksAreOfRecord links

  -- Those of operands do.
  pub LinksAreOfRecord : LinksForm → Type 0
  LinksAreOfRecord no_more_links = Unit {0}
  LinksAreOfRecord (a_link operator e links) = ExpressionIsOfRecord e × LinksAreOfRecord links

-- Those of a condition do, where there is one.
abbrev pub ConditionIsOfRecord : Option ExpressionForm → Type 0
ConditionIsOfRecord None = Unit {0}
ConditionIsOfRecord (Some e) = ExpressionIsOfRecord e

-- Those of an item do, and so does the way to a record that it copies.
abbrev pub ItemIsOfRecord : ItemForm → Type 0
ItemIsOfRecord null_item = Unit {0}
ItemIsOfRecord (item_of_path path) = PathIsOfRecord path
ItemIsOfRecord (item_of_value e) = ExpressionIsOfRecord e
ItemIsOfRecord (item_of_record p) = PathIsOfRecord p.object

-- Those of all of these items do.
abbrev pub ItemsAreOfRecord : List ItemForm → Type 0
ItemsAreOfRecord [] = Unit {0}
ItemsAreOfRecord (i ∷ is) = ItemIsOfRecord i × ItemsAreOfRecord is

-- Those of what is assigned do.
abbrev pub RightIsOfRecord : RightForm → Type 0
RightIsOfRecord nothing = Unit {0}
RightIsOfRecord (value_of path) = PathIsOfRecord path
RightIsOfRecord (allocates access items) = ItemsAreOfRecord items
RightIsOfRecord (allocates_default access) = Unit {0}
RightIsOfRecord (computes e) = ExpressionIsOfRecord e

-- Those of the initial value of a variable do, other than of a record object.
abbrev pub DeclarationIsOfRecord : DeclarationForm → Type 0
DeclarationIsOfRecord (creates_pool p) = Unit {0}
DeclarationIsOfRecord (collects access) = Unit {0}
DeclarationIsOfRecord (declares x right) = RightIsOfRecord right
DeclarationIsOfRecord (declares_record x t initial) = Unit {0}

-- Those of all of these declarations do.
abbrev pub DeclarationsAreOfRecord : List DeclarationForm → Type 0
DeclarationsAreOfRecord [] = Unit {0}
DeclarationsAreOfRecord (d ∷ ds) = DeclarationIsOfRecord d × DeclarationsAreOfRecord ds

abbrev mutual
  -- Those of a statement do, other than of a call, and so does the way to a record that is assigned as a whole; and the next number of the input goes to no
  -- tracked component.
  pub StatementIsOfRecord : Tracks → StmtForm → Type 0
  StatementIsOfRecord tracks skips = Unit {0}
  StatementIsOfRecord tracks (assigns target right) = PathIsOfRecord target × RightIsOfRecord right
  StatementIsOfRecord tracks (assigns_record target items) = PathIsOfRecord target.object × ItemsAreOfRecord items
  StatementIsOfRecord tracks (frees access path) = PathIsOfRecord path
  StatementIsOfRecord tracks (gets target) = PathIsOfRecord target × (is_tracked tracks target ≡ false)
  StatementIsOfRecord tracks (writes e) = ExpressionIsOfRecord e
  StatementIsOfRecord tracks (writes_text text) = Unit {0}
  StatementIsOfRecord tracks (chooses branches) = BranchesAreOfRecord tracks branches
  StatementIsOfRecord tracks (repeats condition fs spot) = ConditionIsOfRecord condition × StatementsAreOfRecord tracks fs
  StatementIsOfRecord tracks (counts x low high fs spot) =
      ExpressionIsOfRecord low × ExpressionIsOfRecord high × StatementsAreOfRecord tracks fs
  StatementIsOfRecord tracks (exits condition spot) = ConditionIsOfRecord condition
  StatementIsOfRecord tracks (calls procedure actuals) = Unit {0}
  StatementIsOfRecord tracks (returns spot) = Unit {0}
  StatementIsOfRecord tracks (raises e) = Unit {0}
  StatementIsOfRecord tracks (encloses ds fs hs) = DeclarationsAreOfRecord ds × StatementsAreOfRecord tracks fs × HandlersAreOfRecord tracks hs

  -- Those of statements do.
  pub StatementsAreOfRecord : Tracks → StmtsForm → Type 0
  StatementsAreOfRecord tracks no_stmts = Unit {0}
  StatementsAreOfRecord tracks (a_stmt f fs) = StatementIsOfRecord tracks f × StatementsAreOfRecord tracks fs

  -- Those of branches do (5.3).
  pub BranchesAreOfRecord : Tracks → BranchesForm → Type 0
  BranchesAreOfRecord tracks (otherwise fs) = StatementsAreOfRecord tracks fs
  BranchesAreOfRecord tracks (a_branch e fs branches) = ExpressionIsOfRecord e × StatementsAreOfRecord tracks fs × BranchesAreOfRecord tracks branches

  -- Those of handlers do (11.2).
  pub HandlersAreOfRecord : Tracks → HandlersForm → Type 0
  HandlersAreOfRecord tracks no_handlers = Unit {0}
  HandlersAreOfRecord tracks (a_handler choices fs hs) = StatementsAreOfRecord tracks fs × HandlersAreOfRecord tracks hs

-- Initial values.

-- The initial value of a variable names, as it is judged, what is declared before (8.3): no tracked component, which stands behind all variables.
abbrev pub DeclarationNamesBefore : Tracks → DeclarationForm → Type 0
DeclarationNamesBefore tracks (creates_pool p) = Unit {0}
DeclarationNamesBefore tracks (collects access) = Unit {0}
DeclarationNamesBefore tracks (declares x right) = names_before x (seen_right tracks right) ≡ true
DeclarationNamesBefore tracks (declares_record x t initial) = Unit {0}

-- So does each of these.
abbrev pub DeclarationsNameBefore : Tracks → List DeclarationForm → Type 0
DeclarationsNameBefore tracks [] = Unit {0}
DeclarationsNameBefore tracks (d ∷ ds) = DeclarationNamesBefore tracks d × DeclarationsNameBefore tracks ds

abbrev mutual
  -- So does each in the blocks of a statement (5.6).
  pub StatementNamesBefore : Tracks → StmtForm → Type 0
  StatementNamesBefore tracks skips = Unit {0}
  StatementNamesBefore tracks (assigns target right) = Unit {0}
  StatementNamesBefore tracks (assigns_record target items) = Unit {0}
  StatementNamesBefore tracks (frees access path) = Unit {0}
  StatementNamesBefore tracks (gets target) = Unit {0}
  StatementNamesBefore tracks (writes e) = Unit {0}
  StatementNamesBefore tracks (writes_text text) = Unit {0}
  StatementNamesBefore tracks (chooses branches) = BranchesNameBefore tracks branches
  StatementNamesBefore tracks (repeats condition fs spot) = StatementsNameBefore tracks fs
  StatementNamesBefore tracks (counts x low high fs spot) = StatementsNameBefore tracks fs
  StatementNamesBefore tracks (exits condition spot) = Unit {0}
  StatementNamesBefore tracks (calls procedure actuals) = Unit {0}
  StatementNamesBefore tracks (returns spot) = Unit {0}
  StatementNamesBefore tracks (raises e) = Unit {0}
  StatementNamesBefore tracks (encloses ds fs hs) = DeclarationsNameBefore tracks ds × StatementsNameBefore tracks fs × HandlersNameBefore tracks hs

  -- In those of statements.
  pub StatementsNameBefore : Tracks → StmtsForm → Type 0
  StatementsNameBefore tracks no_stmts = Unit {0}
  StatementsNameBefore tracks (a_stmt f fs) = StatementNamesBefore tracks f × StatementsNameBefore tracks fs

  -- In those of branches.
  pub BranchesNameBefore : Tracks → BranchesForm → Type 0
  BranchesNameBefore tracks (otherwise fs) = StatementsNameBefore tracks fs
  BranchesNameBefore tracks (a_branch e fs branches) = StatementsNameBefore tracks fs × BranchesNameBefore tracks branches

  -- In those of handlers.
  pub HandlersNameBefore : Tracks → HandlersForm → Type 0
  HandlersNameBefore tracks no_handlers = Unit {0}
  HandlersNameBefore tracks (a_handler choices fs hs) = StatementsNameBefore tracks fs × HandlersNameBefore tracks hs

-- What a form says over the variables of its body, and what another form says over those as they are judged.

-- Of paths: what they lead to (4.1), whether they name borrowers, and whether they may find null.
pub record PathFits (types : List TypeForm) (own all : List VariableForm) (path other : PathForm) : Type 0 where
  pub kind : path_kind types all other ≡ path_kind types own path
  pub access : path_access types all other ≡ path_access types own path
  pub borrows : names_borrower all other ≡ names_borrower own path
  pub may_raise : path_raises other ≡ path_raises path

-- Of expressions: their types (4.4), and whether they may raise Constraint_Error.
pub record ExpressionFits (types : List TypeForm) (own all : List VariableForm) (e other : ExpressionForm) : Type 0 where
  pub kind : type_of types all other ≡ type_of types own e
  pub may_raise : expression_raises other ≡ expression_raises e

-- Of conditions: that they are Booleans (5.5), and the same.
pub record ConditionFits (types : List TypeForm) (own all : List VariableForm) (condition other : Option ExpressionForm) : Type 0 where
  pub fits : condition_fits types all other ≡ condition_fits types own condition
  pub may_raise : condition_raises other ≡ condition_raises condition

-- Of items: that they are for these components (4.3.1), and no borrowers, and the same.
pub record ItemsFit (types : List TypeForm) (own all : List VariableForm) (items others : List ItemForm) : Type 0 where
  pub fits : (components : List ComponentKind) → items_fit types all components others ≡ items_fit types own components items
  pub owns : list_all (item_owns all) others ≡ list_all (item_owns own) items
  pub may_raise : items_raise others ≡ items_raise items

-- Of what is assigned: that it fits what is held there (5.2), and suits it, a borrower or not; which exceptions it may raise, and of which access types objects
-- may be freed.
pub record RightFits (types : List TypeForm) (own all : List VariableForm) (right other : RightForm) : Type 0 where
  pub fits : (kind : Option VariableKind) → right_fits types all kind other ≡ right_fits types own kind right
  pub lends : (borrows : Bool) → lends_to all borrows other ≡ lends_to own borrows right
  pub may_raise : (among : Exception → Bool) → right_raises among other ≡ right_raises among right
  pub may_start : (implicit : Implicit) (among : Exception → Bool) → right_starts implicit among other ≡ right_starts implicit among right
  pub may_free : (implicit : Implicit) (access : ℕ) → right_frees implicit access other ≡ right_frees implicit access right

-- Of declarations: that they fit (3.11), what they create, which exceptions they may raise, and of which access types objects may be freed by them, and at
-- the end of their part.
pub record DeclarationsFit (types : List TypeForm) (own all : List VariableForm) (NameBefore : Type 0) (ds others : List DeclarationForm) : Type 0 where
  pub fits : declarations_fit types own ds ≡ true → NameBefore → declarations_fit types all others ≡ true
  pub creates : map creation others ≡ map creation ds
  pub collects : collected others ≡ collected ds
  pub has_records : record_objects others ≡ record_objects ds
  pub may_raise : (implicit : Implicit) (among : Exception → Bool) → declarations_raise implicit among others ≡ declarations_raise implicit among ds
  pub may_free : (implicit : Implicit) (access : ℕ) → declarations_free implicit access others ≡ declarations_free implicit access ds
  pub may_free_at_end : (implicit : Implicit) (access : ℕ) → leaving_frees implicit access others ≡ leaving_frees implicit access ds

-- Of a statement: that it has the types that it wants (5.2), that each Free is by the instance for the access type of what it frees (13.11.2), what it creates,
-- and where, which exceptions it may raise, and of which access types it may free objects.
pub record StatementFits (types : List TypeForm) (own all : List VariableForm) (NameBefore : Type 0) (f other : StmtForm) : Type 0 where
  pub fits :
      (texts exceptions : List (List ℕ)) (callable : List Profile) (inside : Bool) → statement_fits types own texts exceptions callable inside f ≡ true → NameBefore
      → statement_fits types all texts exceptions callable inside other ≡ true
  pub frees_own : statement_frees_own types all other ≡ statement_frees_own types own f
  pub creates : created_by other ≡ created_by f
  pub nests : (callees : Callees) (around : List ℕ) → statement_nests types callees around other ≡ statement_nests types callees around f
  pub may_raise : (effects : Effects) (among : Exception → Bool) → stmt_raises effects among other ≡ stmt_raises effects among f
  pub may_free : (effects : Effects) (access : ℕ) → stmt_frees types all effects access other ≡ stmt_frees types own effects access f

-- Of statements.
pub record StatementsFit (types : List TypeForm) (own all : List VariableForm) (NameBefore : Type 0) (fs others : StmtsForm) : Type 0 where
  pub fits :
      (texts exceptions : List (List ℕ)) (callable : List Profile) (inside : Bool) → stmts_fit types own texts exceptions callable inside fs ≡ true → NameBefore
      → stmts_fit types all texts exceptions callable inside others ≡ true
  pub there : has_statement others ≡ has_statement fs
  pub frees_own : statements_free_own types all others ≡ statements_free_own types own fs
  pub creates : created_by_all others ≡ created_by_all fs
  pub nests : (callees : Callees) (around : List ℕ) → statements_nest types callees around others ≡ statements_nest types callees around fs
  pub may_raise : (effects : Effects) (among : Exception → Bool) → stmts_raise effects among others ≡ stmts_raise effects among fs
  pub may_free : (effects : Effects) (access : ℕ) → stmts_free types all effects access others ≡ stmts_free types own effects access fs

-- Of branches.
pub record BranchesFit (types : List TypeForm) (own all : List VariableForm) (NameBefore : Type 0) (branches others : BranchesForm) : Type 0 where
  pub fits :
      (texts exceptions : List (List ℕ)) (callable : List Profile) (inside : Bool) → branches_fit types own texts exceptions callable inside branches ≡ true → NameBefore
      → branches_fit types all texts exceptions callable inside others ≡ true
  pub frees_own : branches_free_own types all others ≡ branches_free_own types own branches
  pub creates : created_by_branches others ≡ created_by_branches branches
  pub nests : (callees : Callees) (around : List ℕ) → branches_nest types callees around others ≡ branches_nest types callees around branches
  pub may_raise : (effects : Effects) (among : Exception → Bool) → branches_raise effects among others ≡ branches_raise effects among branches
  pub may_free : (effects : Effects) (access : ℕ) → branches_free types all effects access others ≡ branches_free types own effects access branches

-- Of handlers, which take the same exceptions (11.2).
pub record HandlersFit (types : List TypeForm) (own all : List VariableForm) (NameBefore : Type 0) (hs others : HandlersForm) : Type 0 where
  pub fits :
      (texts exceptions : List (List ℕ)) (callable : List Profile) (inside : Bool) → handlers_fit types own texts exceptions callable inside hs ≡ true → NameBefore
      → handlers_fit types all texts exceptions callable inside others ≡ true
  pub takes : (e : Exception) → is_taken others e ≡ is_taken hs e
  pub frees_own : handlers_free_own types all others ≡ handlers_free_own types own hs
  pub creates : created_by_handlers others ≡ created_by_handlers hs
  pub nests : (callees : Callees) (around : List ℕ) → handlers_nest types callees around others ≡ handlers_nest types callees around hs
  pub may_raise : (effects : Effects) (among : Exception → Bool) → handlers_raise effects among others ≡ handlers_raise effects among hs
  pub may_free : (effects : Effects) (access : ℕ) → handlers_free types all effects access others ≡ handlers_free types own effects access hs

-- The law, of simple forms of a body in which paths from the formal parameter begin with a record object.

-- Over the variables as they are judged a form says, as it is judged, what it says over those of the body.
abbrev pub FormsFitAsJudged : List TypeForm → Tracks → List VariableForm → Type 0
FormsFitAsJudged types tracks own =
    ((path : PathForm) → PathIsSimple tracks.first path → PathIsOfRecord path → PathFits types own (judged types tracks own) path (seen tracks path))
    × ((e : ExpressionForm) → ExpressionIsSimple tracks.first e → ExpressionIsOfRecord e
    → ExpressionFits types own (judged types tracks own) e (seen_expression tracks e))
    × ((condition : Option ExpressionForm) → ConditionIsSimple tracks.first condition → ConditionIsOfRecord condition
    → ConditionFits types own (judged types tracks own) condition (seen_condition tracks condition))
    × ((items : List ItemForm) → ItemsAreSimple tracks.first items → ItemsAreOfRecord items
    → ItemsFit types own (judged types tracks own) items (seen_items tracks items))
    × ((right : RightForm) → RightIsSimple tracks.first right → RightIsOfRecord right
    → RightFits types own (judged types tracks own) right (seen_right tracks right))
    × ((ds : List DeclarationForm) → DeclarationsAreSimple tracks.first ds → DeclarationsAreOfRecord ds
    → DeclarationsFit types own (judged types tracks own) (DeclarationsNameBefore tracks ds) ds (seen_declarations tracks ds))
    × ((fs : StmtsForm) → StatementsAreSimple tracks.first fs → StatementsAreOfRecord tracks fs
    → StatementsFit types own (judged types tracks own) (StatementsNameBefore tracks fs) fs (seen_stmts tracks fs))
    × ((branches : BranchesForm) → BranchesAreSimple tracks.first branches → BranchesAreOfRecord tracks branches
    → BranchesFit types own (judged types tracks own) (BranchesNameBefore tracks branches) branches (seen_branches tracks branches))
    × ((hs : HandlersForm) → HandlersAreSimple tracks.first hs → HandlersAreOfRecord tracks hs
    → HandlersFit types own (judged types tracks own) (HandlersNameBefore tracks hs) hs (seen_handlers tracks hs))

-- Where forms fit over the variables of the body, paths from the formal parameter begin with a record object (4.1), and the next number of the input goes to no
-- tracked component, since those are of access types.
abbrev pub FittingFormsAreOfRecord : List TypeForm → Tracks → List VariableForm → Type 0
FittingFormsAreOfRecord types tracks own =
    ((ds : List DeclarationForm) → declarations_fit types own ds ≡ true → DeclarationsAreOfRecord ds)
    × ((texts exceptions : List (List ℕ)) (callable : List Profile) (inside : Bool) (fs : StmtsForm) → stmts_fit types own texts exceptions callable inside fs ≡ true
    → StatementsAreOfRecord tracks fs)
    × ((texts exceptions : List (List ℕ)) (callable : List Profile) (inside : Bool) (hs : HandlersForm) → handlers_fit types own texts exceptions callable inside hs ≡ true
    → HandlersAreOfRecord tracks hs)

-- The variables of the body are judged as they are; behind them each tracked component is a variable that holds what the component does, and no borrower; and
-- all of them fit (3.3.1), where types and variables do.
abbrev pub VariablesFitAsJudged : List TypeForm → Tracks → List VariableForm → Type 0
VariablesFitAsJudged types tracks own =
    ((x : ℕ) → x < tracks.first
    → (variable_kind (judged types tracks own) x ≡ variable_kind own x) × (is_borrower (judged types tracks own) x ≡ is_borrower own x))
    × ((i c : ℕ) → slice_get tracks.components i ≡ Some c
    → (access : TypeNo) × (variable_kind (judged types tracks own) (tracks.first + i) ≡ Some (variable.Access access))
    × (selected_kind types (variable_kind (judged types tracks own) 0) c ≡ Some (variable.Access access))
    × (is_borrower (judged types tracks own) (tracks.first + i) ≡ false))
    × (list_all (type_fits types) types ≡ true → list_all (variable_fits types) own ≡ true → list_all (variable_fits types) (judged types tracks own) ≡ true)

-- Bodies.

-- A body as it is judged: its variables, and each form of it.
abbrev pub seen_body : List TypeForm → Tracks → BodyForm → BodyForm
seen_body types tracks b = record b {
  variables = judged types tracks b.variables;
  declarations = seen_declarations tracks b.declarations;
  statements = seen_stmts tracks b.statements;
  handlers = seen_handlers tracks b.handlers;
}

-- A body of such forms.
abbrev pub BodyIsSimple : (first : ℕ) → BodyForm → Type 0
BodyIsSimple first b =
    DeclarationsAreSimple first b.declarations × StatementsAreSimple first b.statements × HandlersAreSimple first b.handlers

-- Its paths from the formal parameter begin with a record object (4.1), and the next number of the input goes to no tracked component.
abbrev pub BodyIsOfRecord : Tracks → BodyForm → Type 0
BodyIsOfRecord tracks b =
    DeclarationsAreOfRecord b.declarations × StatementsAreOfRecord tracks b.statements × HandlersAreOfRecord tracks b.handlers

-- The initial values of variables name, as they are judged, what is declared before.
abbrev pub BodyNamesBefore : Tracks → BodyForm → Type 0
BodyNamesBefore tracks b =
    DeclarationsNameBefore tracks b.declarations × StatementsNameBefore tracks b.statements × HandlersNameBefore tracks b.handlers

-- What is asked of a body in a well-formed program, but that each of its variables is created.
pub record FormsOfBodyFit (types : List TypeForm) (texts exceptions : List (List ℕ)) (callable : List Profile) (b : BodyForm) : Type 0 where
  pub variables : list_all (variable_fits types) b.variables ≡ true
  pub declarations : declarations_fit types b.variables b.declarations ≡ true
  pub statements : stmts_fit types b.variables texts exceptions callable false b.statements ≡ true
  pub handlers : handlers_fit types b.variables texts exceptions callable false b.handlers ≡ true

-- Of a body, and of another one: that the other one fits, what they create, and where, that each Free is by the instance for the access type of what it frees
-- (13.11.2), which exceptions their statements, and they, may raise, and of which access types they may free objects.
pub record BodyFits (types : List TypeForm) (texts exceptions : List (List ℕ)) (callable : List Profile) (NameBefore : Type 0) (b other : BodyForm) : Type 0 where
  pub fits : NameBefore → FormsOfBodyFit types texts exceptions callable other
  pub creates : created_in other ≡ created_in b
  pub nests : (callees : Callees) (around : List ℕ) → body_nests types callees other around ≡ body_nests types callees b around
  pub frees_own : body_frees_own types other ≡ body_frees_own types b
  pub may_pass : (effects : Effects) → passes effects other.statements other.handlers ≡ passes effects b.statements b.handlers
  pub may_raise : (effects : Effects) (among : Exception → Bool) → body_raises effects other among ≡ body_raises effects b among
  pub may_free : (effects : Effects) (access : ℕ) → body_frees types effects other access ≡ body_frees types effects b access

-- A body that is well formed fits as it is judged.
abbrev pub BodiesFitAsJudged : List TypeForm → Tracks → Type 0
BodiesFitAsJudged types tracks =
    (texts exceptions : List (List ℕ)) (callable : List Profile) (b : BodyForm) → TracksComponents types tracks b.variables → BodyIsSimple tracks.first b
    → list_all (type_fits types) types ≡ true → body_fits types texts exceptions callable b ≡ true
    → BodyIsOfRecord tracks b × BodyFits types texts exceptions callable (BodyNamesBefore tracks b) b (seen_body types tracks b)

-- So it is of bodies that track components of their formal parameters, and of their forms.
abbrev pub TrackedComponentsFitAsVariables : Type 0
TrackedComponentsFitAsVariables =
    (types : List TypeForm) (tracks : Tracks)
    → ((variables : List VariableForm) → TracksComponents types tracks variables
    → VariablesFitAsJudged types tracks variables × FormsFitAsJudged types tracks variables × FittingFormsAreOfRecord types tracks variables)
    × BodiesFitAsJudged types tracks

-- What the law takes of a body, which names a tracked component.
pub record IsFitting (types : List TypeForm) (tracks : Tracks) (b : BodyForm) : Type 0 where
  pub tracks_components : TracksComponents types tracks b.variables
  pub simple : BodyIsSimple tracks.first b
  pub before : BodyNamesBefore tracks b
  pub types_fit : list_all (type_fits types) types ≡ true
  pub body_fits : body_fits types [] [] [] b ≡ true
  pub moves : (seen_stmts tracks b.statements ≡ b.statements) → ⊥

-- There is such a body.
abbrev pub FittingIsMet : Type 0
FittingIsMet = (types : List TypeForm) × (tracks : Tracks) × (b : BodyForm) × IsFitting types tracks b
