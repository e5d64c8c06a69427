-- The law: flow lets a body with tracked components through as one that has a variable for each.

use Rattle.std.specs.Prelude.{◌≡◌, ℕ, ◌+◌, ◌<◌, true, false, List, [], ◌∷◌, Option, Some, None}
use Rattle.std.specs.List.{slice_get}
use Rattle.ada_program.specs.declared.program.TypeNo.{TypeNo}
use Rattle.ada_program.specs.declared.program.VariableKind.TheVariants as variable
use Rattle.ada_program.specs.Form.{PathForm, ExpressionForm, integer, boolean, reads, is_null, applied_to, chained, LinksForm, no_more_links, a_link, ItemForm, null_item, item_of_path, item_of_value, item_of_record, RightForm, nothing, value_of, allocates, allocates_default, computes, DeclarationForm, creates_pool, collects, declares, declares_record, StmtForm, skips, assigns, assigns_record, frees, gets, writes, writes_text, chooses, repeats, counts, exits, calls, returns, raises, encloses, StmtsForm, no_stmts, a_stmt, BranchesForm, otherwise, a_branch, HandlersForm, no_handlers, a_handler}
use Rattle.ada_program.specs.ProgramForm.{TypeForm, VariableForm, BodyForm}
use Rattle.ada_program.specs.WellFormed.{variable_kind, selected_kind, is_borrower}
use Rattle.ada_effects.specs.Effects.{Effects, Implicit, passes}
use Rattle.ada_flow.specs.Tracking.{Tracks, no_tracks, is_tracked, judged}
use Rattle.ada_flow.specs.Flow.{Holds, Outcome, goes, then_flow, Around, Keeping, stmts_flow, branches_flow, handlers_flow, declarations_flow, handled, gone_with, leaves_block, ends_body, owed_at_ends, holds_at_first, body_around, judged_flow, body_flow, tracks_of, begins_pair}
use Rattle.ada_tracked.specs.Forms.{seen_stmts, seen_branches, seen_handlers, seen_declarations}
use Rattle.ada_tracked.specs.Simple.{IsVariable, PathIsSimple}

-- Of which forms the law speaks: they call nothing, neither declare nor pass records as wholes, and copy them only as items of new objects or of records that
-- they assign, as the forms of which the law on runs does; and besides a path from the formal parameter follows nothing to its first component, since that is a record object, and
-- the next number of the input goes to no tracked component, since those are of access types.

-- A path from a variable of the body, or from a component of its formal parameter, to which nothing is followed.
abbrev pub PathIsOrderly : Tracks → PathForm → Type 0
PathIsOrderly tracks path = PathIsSimple tracks.first path × (path.root ≡ 0 → path.of_record ≡ true)

abbrev mutual
  -- The paths of an expression are so.
  pub ExpressionIsOrderly : Tracks → ExpressionForm → Type 0
  ExpressionIsOrderly tracks (integer i) = Unit {0}
  ExpressionIsOrderly tracks (boolean b) = Unit {0}
  ExpressionIsOrderly tracks (reads path) = PathIsOrderly tracks path
  ExpressionIsOrderly tracks (is_null equal path) = PathIsOrderly tracks path
  ExpressionIsOrderly tracks (applied_to operator e) = ExpressionIsOrderly tracks e
  ExpressionIsOrderly tracks (chained e links) = ExpressionIsOrderly tracks e × LinksAreOrderly tracks links

  -- Those of operands are.
  pub LinksAreOrderly : Tracks → LinksForm → Type 0
  LinksAreOrderly tracks no_more_links = Unit {0}
  LinksAreOrderly tracks (a_link operator e links) = ExpressionIsOrderly tracks e × LinksAreOrderly tracks links

-- Those of a condition are, where there is one.
abbrev pub ConditionIsOrderly : Tracks → Option ExpressionForm → Type 0
ConditionIsOrderly tracks None = Unit {0}
ConditionIsOrderly tracks (Some e) = ExpressionIsOrderly tracks e

-- A way to a record that is copied or assigned to is so too, or it is the formal parameter itself, which is a record object.
abbrev pub WayIsOrderly : Tracks → PathForm → Type 0
WayIsOrderly tracks path = (path.root < tracks.first) × (path.root ≡ 0 → path.of_record ≡ true)

-- Those of an item are, and so is the way to a record that it copies.
abbrev pub ItemIsOrderly : Tracks → ItemForm → Type 0
ItemIsOrderly tracks null_item = Unit {0}
ItemIsOrderly tracks (item_of_path path) = PathIsOrderly tracks path
ItemIsOrderly tracks (item_of_value e) = ExpressionIsOrderly tracks e
ItemIsOrderly tracks (item_of_record p) = WayIsOrderly tracks p.object

-- Those of all of these items are.
abbrev pub ItemsAreOrderly : Tracks → List ItemForm → Type 0
ItemsAreOrderly tracks [] = Unit {0}
ItemsAreOrderly tracks (i ∷ is) = ItemIsOrderly tracks i × ItemsAreOrderly tracks is

-- Those of what is assigned are.
abbrev pub RightIsOrderly : Tracks → RightForm → Type 0
RightIsOrderly tracks nothing = Unit {0}
RightIsOrderly tracks (value_of path) = PathIsOrderly tracks path
RightIsOrderly tracks (allocates access items) = ItemsAreOrderly tracks items
RightIsOrderly tracks (allocates_default access) = Unit {0}
RightIsOrderly tracks (computes e) = ExpressionIsOrderly tracks e

-- A declaration of something other than a record object.
abbrev pub DeclarationIsOrderly : Tracks → DeclarationForm → Type 0
DeclarationIsOrderly tracks (creates_pool p) = Unit {0}
DeclarationIsOrderly tracks (collects access) = Unit {0}
DeclarationIsOrderly tracks (declares x right) = IsVariable tracks.first x × RightIsOrderly tracks right
DeclarationIsOrderly tracks (declares_record x t initial) = ⊥

-- All of these declarations are such.
abbrev pub DeclarationsAreOrderly : Tracks → List DeclarationForm → Type 0
DeclarationsAreOrderly tracks [] = Unit {0}
DeclarationsAreOrderly tracks (d ∷ ds) = DeclarationIsOrderly tracks d × DeclarationsAreOrderly tracks ds

abbrev mutual
  -- A statement that neither calls nor reads to a tracked component.
  pub StatementIsOrderly : Tracks → StmtForm → Type 0
  StatementIsOrderly tracks skips = Unit {0}
  StatementIsOrderly tracks (assigns target right) = PathIsOrderly tracks target × RightIsOrderly tracks right
  StatementIsOrderly tracks (assigns_record target items) = WayIsOrderly tracks target.object × ItemsAreOrderly tracks items
  StatementIsOrderly tracks (frees access path) = PathIsOrderly tracks path
  StatementIsOrderly tracks (gets target) = PathIsOrderly tracks target × (is_tracked tracks target ≡ false)
  StatementIsOrderly tracks (writes e) = ExpressionIsOrderly tracks e
  StatementIsOrderly tracks (writes_text text) = Unit {0}
  StatementIsOrderly tracks (chooses branches) = BranchesAreOrderly tracks branches
  StatementIsOrderly tracks (repeats condition fs spot) = ConditionIsOrderly tracks condition × StatementsAreOrderly tracks fs
  StatementIsOrderly tracks (counts x low high fs spot) =
      IsVariable tracks.first x × ExpressionIsOrderly tracks low × ExpressionIsOrderly tracks high × StatementsAreOrderly tracks fs
  StatementIsOrderly tracks (exits condition spot) = ConditionIsOrderly tracks condition
  StatementIsOrderly tracks (calls procedure actuals) = ⊥
  StatementIsOrderly tracks (returns spot) = Unit {0}
  StatementIsOrderly tracks (raises e) = Unit {0}
  StatementIsOrderly tracks (encloses ds fs hs) = DeclarationsAreOrderly tracks ds × StatementsAreOrderly tracks fs × HandlersAreOrderly tracks hs

  -- Statements that are such.
  pub StatementsAreOrderly : Tracks → StmtsForm → Type 0
  StatementsAreOrderly tracks no_stmts = Unit {0}
  StatementsAreOrderly tracks (a_stmt f fs) = StatementIsOrderly tracks f × StatementsAreOrderly tracks fs

  -- Branches of such statements (5.3).
  pub BranchesAreOrderly : Tracks → BranchesForm → Type 0
  BranchesAreOrderly tracks (otherwise fs) = StatementsAreOrderly tracks fs
  BranchesAreOrderly tracks (a_branch e fs branches) = ExpressionIsOrderly tracks e × StatementsAreOrderly tracks fs × BranchesAreOrderly tracks branches

  -- Handlers of such statements (11.2).
  pub HandlersAreOrderly : Tracks → HandlersForm → Type 0
  HandlersAreOrderly tracks no_handlers = Unit {0}
  HandlersAreOrderly tracks (a_handler choices fs hs) = StatementsAreOrderly tracks fs × HandlersAreOrderly tracks hs

-- A body of such forms.
pub record BodyIsOrderly (tracks : Tracks) (b : BodyForm) : Type 0 where
  pub declarations : DeclarationsAreOrderly tracks b.declarations
  pub statements : StatementsAreOrderly tracks b.statements
  pub handlers : HandlersAreOrderly tracks b.handlers

-- What the law takes of the variables as they are judged: behind those of the body stands one for each tracked component.
pub record StandForTracked (types : List TypeForm) (variables : List VariableForm) (tracks : Tracks) : Type 0 where
  -- the type by which the formal parameter is known, which is a record
  pub object : TypeNo
  pub formal : variable_kind variables 0 ≡ Some (variable.Record object)
  -- each of them holds what its component does
  pub kinds : (i c : ℕ) → slice_get tracks.components i ≡ Some c → variable_kind variables (tracks.first + i) ≡ selected_kind types (variable_kind variables 0) c
  -- none is a borrower
  pub owners : (i c : ℕ) → slice_get tracks.components i ≡ Some c → is_borrower variables (tracks.first + i) ≡ false

-- Where the one goes through, so does the other, with the same outcome.
abbrev pub GoesAlike : Outcome → Outcome → Type 0
GoesAlike real judged = (normal raising : Option Holds) → real ≡ goes normal raising → judged ≡ goes normal raising

-- Around forms as they are judged: their body tracks nothing, and has variables for what it does.
abbrev pub around_judged : Around → Around
around_judged around = record around { tracks = no_tracks }

-- A body as it is judged.
abbrev pub judged_body : Tracks → BodyForm → BodyForm
judged_body tracks b = record b {
  declarations = seen_declarations tracks b.declarations;
  statements = seen_stmts tracks b.statements;
  handlers = seen_handlers tracks b.handlers;
}

-- After the declarations, the statements and the handlers of a body that tracks nothing, where it begins with what one holds that tracks these components,
-- and owes what that one owes at its ends.
abbrev pub untracked_flow : List TypeForm → List VariableForm → Effects → List Keeping → Tracks → BodyForm → Outcome
untracked_flow types variables effects kept tracks b =
    ends_body (owed_at_ends tracks b.formals b.variables) b.end_spot
    (leaves_block variables (gone_with b.declarations)
    (then_flow (declarations_flow types variables no_tracks effects.implicit b.declarations (holds_at_first tracks b.formals b.variables))
    (λ at. handled (passes effects b.statements b.handlers)
    (handlers_flow types variables (around_judged (body_around effects kept tracks b)) b.handlers)
    (stmts_flow types variables (around_judged (body_around effects kept tracks b)) b.statements at))))

-- So it is for the statements that stand in a body, for branches, handlers and declarations, and for the whole body.
pub record ObeyAsVariables (types : List TypeForm) (variables : List VariableForm) (tracks : Tracks) : Type 0 where
  pub statements :
      (around : Around) (fs : StmtsForm) (holds : Holds) → around.tracks ≡ tracks → StatementsAreOrderly tracks fs
      → GoesAlike (stmts_flow types variables around fs holds) (stmts_flow types variables (around_judged around) (seen_stmts tracks fs) holds)
  pub branches :
      (around : Around) (bs : BranchesForm) (holds : Holds) → around.tracks ≡ tracks → BranchesAreOrderly tracks bs
      → GoesAlike (branches_flow types variables around bs holds) (branches_flow types variables (around_judged around) (seen_branches tracks bs) holds)
  pub handlers :
      (around : Around) (hs : HandlersForm) (holds : Holds) → around.tracks ≡ tracks → HandlersAreOrderly tracks hs
      → GoesAlike (handlers_flow types variables around hs holds) (handlers_flow types variables (around_judged around) (seen_handlers tracks hs) holds)
  pub declarations :
      (implicit : Implicit) (ds : List DeclarationForm) (holds : Holds) → DeclarationsAreOrderly tracks ds
      → GoesAlike (declarations_flow types variables tracks implicit ds holds) (declarations_flow types variables no_tracks implicit (seen_declarations tracks ds) holds)
  pub body :
      (effects : Effects) (kept : List Keeping) (b : BodyForm) → BodyIsOrderly tracks b
      → GoesAlike (judged_flow types variables effects kept tracks b) (untracked_flow types variables effects kept tracks (judged_body tracks b))

-- Where flow lets forms through that name tracked components, it lets them through with a variable for each, and what is known behind them is the same.
abbrev pub TrackedComponentsObeyAsVariables : Type 0
TrackedComponentsObeyAsVariables =
    (types : List TypeForm) (variables : List VariableForm) (tracks : Tracks) → StandForTracked types variables tracks → ObeyAsVariables types variables tracks

-- The body of an Adjust, through which flow lets a take pair: it takes the value of a tracked component, and then sets that to null. The body and its variables
-- as they are judged are such as the law takes.
pub record TakesPair (types : List TypeForm) (procedure : ℕ) (effects : Effects) (kept : List Keeping) (b : BodyForm) (normal raising : Option Holds) : Type 0 where
  pub stand : StandForTracked types (judged types (tracks_of types procedure b) b.variables) (tracks_of types procedure b)
  pub orderly : BodyIsOrderly (tracks_of types procedure b) b
  pub goes_through : body_flow types effects kept (tracks_of types procedure b) b ≡ goes normal raising
  -- what it does first, and what the pair takes
  pub first : StmtForm
  pub target : PathForm
  pub path : PathForm
  pub rest : StmtsForm
  pub statements : b.statements ≡ a_stmt first (a_stmt (assigns target (value_of path)) rest)
  pub tracked : is_tracked (tracks_of types procedure b) path ≡ true
  pub pair : begins_pair (assigns target (value_of path)) rest ≡ true

-- There is such a body.
abbrev pub ObeyingIsMet : Type 0
ObeyingIsMet =
    (types : List TypeForm) × (procedure : ℕ) × (effects : Effects) × (kept : List Keeping) × (b : BodyForm) × (normal : Option Holds) × (raising : Option Holds)
    × TakesPair types procedure effects kept b normal raising
