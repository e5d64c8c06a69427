-- Of which bodies the law speaks: they call nothing, neither declare nor pass records as wholes, and copy them only as items of new objects or of records that
-- they assign. Their variables have numbers below `first`, and 0 is the formal parameter, which is named alone only where a record is copied, or assigned to, that
-- lies in it.

use Rattle.std.specs.Prelude.{ℕ, ◌<◌, List, [], ◌∷◌, Option, Some, None}
use Rattle.ada_program.specs.Form.{PathForm, ExpressionForm, integer, boolean, reads, is_null, applied_to, chained, LinksForm, no_more_links, a_link, ItemForm, null_item, item_of_path, item_of_value, item_of_record, RightForm, nothing, value_of, allocates, allocates_default, computes, DeclarationForm, creates_pool, collects, declares, declares_record, StmtForm, skips, assigns, assigns_record, frees, gets, writes, writes_text, chooses, repeats, counts, exits, calls, returns, raises, encloses, StmtsForm, no_stmts, a_stmt, BranchesForm, otherwise, a_branch, HandlersForm, no_handlers, a_handler}
use Rattle.ada_meaning.specs.declared.state.Value.{Value}
use Rattle.ada_meaning.specs.Frame.{Frame}
use Rattle.ada_meaning.specs.Frame as frame

-- A variable of the body, other than its formal parameter.
abbrev pub IsVariable : (first x : ℕ) → Type 0
IsVariable first x = (0 < x) × (x < first)

-- A path from a variable of the body: from its formal parameter only to a component of it.
abbrev pub IsFrom : (first root : ℕ) → (selectors : List ℕ) → Type 0
IsFrom first x [] = IsVariable first x
IsFrom first x (c ∷ cs) = x < first

-- Such a path.
abbrev pub PathIsSimple : (first : ℕ) → PathForm → Type 0
PathIsSimple first path = IsFrom first path.root path.selectors

abbrev mutual
  -- The paths of an expression are so.
  pub ExpressionIsSimple : (first : ℕ) → ExpressionForm → Type 0
  ExpressionIsSimple first (integer i) = Unit {0}
  ExpressionIsSimple first (boolean b) = Unit {0}
  ExpressionIsSimple first (reads path) = PathIsSimple first path
  ExpressionIsSimple first (is_null equal path) = PathIsSimple first path
  ExpressionIsSimple first (applied_to operator e) = ExpressionIsSimple first e
  ExpressionIsSimple first (chained e links) = ExpressionIsSimple first e × LinksAreSimple first links

  -- Those of operands are.
  pub LinksAreSimple : (first : ℕ) → LinksForm → Type 0
  LinksAreSimple first no_more_links = Unit {0}
  LinksAreSimple first (a_link operator e links) = ExpressionIsSimple first e × LinksAreSimple first links

-- Those of a condition are, where there is one.
abbrev pub ConditionIsSimple : (first : ℕ) → Option ExpressionForm → Type 0
ConditionIsSimple first None = Unit {0}
ConditionIsSimple first (Some e) = ExpressionIsSimple first e

-- Those of an item are; a record that it copies may lie in any variable of the body, also in its formal parameter itself.
abbrev pub ItemIsSimple : (first : ℕ) → ItemForm → Type 0
ItemIsSimple first null_item = Unit {0}
ItemIsSimple first (item_of_path path) = PathIsSimple first path
ItemIsSimple first (item_of_value e) = ExpressionIsSimple first e
ItemIsSimple first (item_of_record p) = p.object.root < first

-- Those of all of these items are.
abbrev pub ItemsAreSimple : (first : ℕ) → List ItemForm → Type 0
ItemsAreSimple first [] = Unit {0}
ItemsAreSimple first (i ∷ is) = ItemIsSimple first i × ItemsAreSimple first is

-- Those of what is assigned are.
abbrev pub RightIsSimple : (first : ℕ) → RightForm → Type 0
RightIsSimple first nothing = Unit {0}
RightIsSimple first (value_of path) = PathIsSimple first path
RightIsSimple first (allocates access items) = ItemsAreSimple first items
RightIsSimple first (allocates_default access) = Unit {0}
RightIsSimple first (computes e) = ExpressionIsSimple first e

-- A declaration of something other than a record object.
abbrev pub DeclarationIsSimple : (first : ℕ) → DeclarationForm → Type 0
DeclarationIsSimple first (creates_pool p) = Unit {0}
DeclarationIsSimple first (collects access) = Unit {0}
DeclarationIsSimple first (declares x right) = IsVariable first x × RightIsSimple first right
DeclarationIsSimple first (declares_record x t initial) = ⊥

-- All of these declarations are such.
abbrev pub DeclarationsAreSimple : (first : ℕ) → List DeclarationForm → Type 0
DeclarationsAreSimple first [] = Unit {0}
DeclarationsAreSimple first (d ∷ ds) = DeclarationIsSimple first d × DeclarationsAreSimple first ds

abbrev mutual
  -- A statement that calls nothing; a record that it assigns to as a whole may lie in any variable of the body, also in its formal parameter itself.
  pub StatementIsSimple : (first : ℕ) → StmtForm → Type 0
  StatementIsSimple first skips = Unit {0}
  StatementIsSimple first (assigns target right) = PathIsSimple first target × RightIsSimple first right
  StatementIsSimple first (assigns_record target items) = (target.object.root < first) × ItemsAreSimple first items
  StatementIsSimple first (frees access path) = PathIsSimple first path
  StatementIsSimple first (gets target) = PathIsSimple first target
  StatementIsSimple first (writes e) = ExpressionIsSimple first e
  StatementIsSimple first (writes_text text) = Unit {0}
  StatementIsSimple first (chooses branches) = BranchesAreSimple first branches
  StatementIsSimple first (repeats condition fs spot) = ConditionIsSimple first condition × StatementsAreSimple first fs
  StatementIsSimple first (counts x low high fs spot) =
      IsVariable first x × ExpressionIsSimple first low × ExpressionIsSimple first high × StatementsAreSimple first fs
  StatementIsSimple first (exits condition spot) = ConditionIsSimple first condition
  StatementIsSimple first (calls procedure actuals) = ⊥
  StatementIsSimple first (returns spot) = Unit {0}
  StatementIsSimple first (raises e) = Unit {0}
  StatementIsSimple first (encloses ds fs hs) = DeclarationsAreSimple first ds × StatementsAreSimple first fs × HandlersAreSimple first hs

  -- Statements that are such.
  pub StatementsAreSimple : (first : ℕ) → StmtsForm → Type 0
  StatementsAreSimple first no_stmts = Unit {0}
  StatementsAreSimple first (a_stmt f fs) = StatementIsSimple first f × StatementsAreSimple first fs

  -- Branches of such statements (5.3).
  pub BranchesAreSimple : (first : ℕ) → BranchesForm → Type 0
  BranchesAreSimple first (otherwise fs) = StatementsAreSimple first fs
  BranchesAreSimple first (a_branch e fs branches) = ExpressionIsSimple first e × StatementsAreSimple first fs × BranchesAreSimple first branches

  -- Handlers of such statements (11.2).
  pub HandlersAreSimple : (first : ℕ) → HandlersForm → Type 0
  HandlersAreSimple first no_handlers = Unit {0}
  HandlersAreSimple first (a_handler choices fs hs) = StatementsAreSimple first fs × HandlersAreSimple first hs

-- What is left to do is of such forms, and neither the end of a call nor anything of an operation on a controlled part (7.6).
abbrev pub FrameIsSimple : (first : ℕ) → Frame Value → Type 0
FrameIsSimple first (frame.Elaborates ds fs hs) = DeclarationsAreSimple first ds × StatementsAreSimple first fs × HandlersAreSimple first hs
FrameIsSimple first (frame.Does fs) = StatementsAreSimple first fs
FrameIsSimple first (frame.Decides fs branches) = StatementsAreSimple first fs × BranchesAreSimple first branches
FrameIsSimple first (frame.Repeats condition fs) = ConditionIsSimple first condition × StatementsAreSimple first fs
FrameIsSimple first (frame.Turns condition fs) = ExpressionIsSimple first condition × StatementsAreSimple first fs
FrameIsSimple first (frame.Ranges x fs) = IsVariable first x × StatementsAreSimple first fs
FrameIsSimple first (frame.Counts x value last fs) = IsVariable first x × StatementsAreSimple first fs
FrameIsSimple first frame.Exits = Unit {0}
FrameIsSimple first (frame.Handles hs) = HandlersAreSimple first hs
FrameIsSimple first frame.Closes = Unit {0}
FrameIsSimple first (frame.Leaves mode) = Unit {0}
FrameIsSimple first (frame.Calls procedure b actuals) = ⊥
FrameIsSimple first (frame.Returns actuals references) = ⊥
FrameIsSimple first (frame.Evaluates right) = RightIsSimple first right
FrameIsSimple first (frame.Computes e) = ExpressionIsSimple first e
FrameIsSimple first (frame.Follows cs) = Unit {0}
FrameIsSimple first (frame.TestsNull equal) = Unit {0}
FrameIsSimple first (frame.Refers p) = ⊥
FrameIsSimple first (frame.RefersIn place t) = ⊥
FrameIsSimple first (frame.Opens path) = ⊥
FrameIsSimple first (frame.OpensIn c) = ⊥
FrameIsSimple first (frame.Continues links) = LinksAreSimple first links
FrameIsSimple first (frame.Applies operator) = Unit {0}
FrameIsSimple first (frame.AppliesAlone operator) = Unit {0}
FrameIsSimple first (frame.Fills items) = ItemsAreSimple first items
FrameIsSimple first (frame.Copies c t) = Unit {0}
FrameIsSimple first (frame.Creates access count) = Unit {0}
FrameIsSimple first (frame.Stores x) = IsVariable first x
FrameIsSimple first (frame.Targets c right) = RightIsSimple first right
FrameIsSimple first (frame.StoresIn o c) = Unit {0}
FrameIsSimple first (frame.TargetsRecord c t items) = ItemsAreSimple first items
FrameIsSimple first (frame.StoresRecord o c count) = Unit {0}
FrameIsSimple first (frame.Assigns t) = ⊥
FrameIsSimple first (frame.Receives c) = Unit {0}
FrameIsSimple first (frame.FreesIn access c) = Unit {0}
FrameIsSimple first (frame.Declares x) = IsVariable first x
FrameIsSimple first (frame.DeclaresRecord x t) = ⊥
FrameIsSimple first (frame.Treats v treatment tasks) = ⊥
FrameIsSimple first (frame.Awaits v by done of part tasks) = ⊥
FrameIsSimple first frame.Confines = ⊥
FrameIsSimple first (frame.Resumes mode) = ⊥
FrameIsSimple first frame.Writes = Unit {0}
FrameIsSimple first (frame.Ends v) = Unit {0}
FrameIsSimple first (frame.GivesBack v cause pool) = Unit {0}
FrameIsSimple first (frame.Clears x) = IsVariable first x
FrameIsSimple first (frame.ClearsIn o c) = Unit {0}
