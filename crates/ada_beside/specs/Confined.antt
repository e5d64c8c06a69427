-- Of which bodies the law speaks: they call nothing, neither declare nor pass records as wholes, and copy them only as items of new objects or of records that
-- they assign; and each of their paths from the formal parameter begins with a component of the record that this is, or is that record, where it lies around what
-- is copied or assigned, or is copied itself. Their variables have numbers below `first`, and 0 is the formal parameter.

use Rattle.std.specs.Prelude.{◌≡◌, ℕ, zero, suc, ◌+◌, ◌<◌, Bool, true, List, [], ◌∷◌, Option, Some, None, ◌⊎◌}
use Rattle.ada_program.specs.Form.{PathForm, ExpressionForm, integer, boolean, reads, is_null, applied_to, chained, LinksForm, no_more_links, a_link, ItemForm, null_item, item_of_path, item_of_value, item_of_record, RightForm, nothing, value_of, allocates, allocates_default, computes, DeclarationForm, creates_pool, collects, declares, declares_record, StmtForm, skips, assigns, assigns_record, frees, gets, writes, writes_text, chooses, repeats, counts, exits, calls, returns, raises, encloses, StmtsForm, no_stmts, a_stmt, BranchesForm, otherwise, a_branch, HandlersForm, no_handlers, a_handler}
use Rattle.ada_meaning.specs.declared.state.Mode.{Mode}
use Rattle.ada_meaning.specs.declared.state.Mode.TheVariants.{Running}
use Rattle.ada_meaning.specs.declared.state.Value.{Value}
use Rattle.ada_meaning.specs.declared.state.Value.TheVariants.{Null, Names}
use Rattle.ada_meaning.specs.Frame.{Frame, is_return}
use Rattle.ada_meaning.specs.Frame as frame
use Rattle.ada_meaning.specs.Step.{first_or, operands}
use Rattle.ada_meaning.specs.Named.{State}
use Rattle.ada_tracked.specs.Frames.{View}
use Rattle.ada_tracked.specs.Seen.{IsOther}
use Rattle.ada_tracked.specs.Simple.{IsVariable}
use Rattle.ada_tracked.specs.Staying.{UnlessItEnds}

-- Which components of its formal parameter a body may reach, by their numbers in that record.
module _ (first : ℕ) (reaches : ℕ → Bool) where
  -- A path from a variable of the body; from its formal parameter only to a component that it may reach.
  abbrev pub IsConfinedFrom : (root : ℕ) → (selectors : List ℕ) → Type 0
  IsConfinedFrom x [] = IsVariable first x
  IsConfinedFrom zero (c ∷ cs) = (0 < first) × (reaches c ≡ true)
  IsConfinedFrom (suc x) (c ∷ cs) = suc x < first

  -- Such a path.
  abbrev pub PathIsConfined : PathForm → Type 0
  PathIsConfined path = IsConfinedFrom path.root path.selectors

  -- The way to a record that is copied or assigned to: such a path, or the formal parameter itself.
  abbrev pub IsCopiedFrom : (root : ℕ) → (selectors : List ℕ) → Type 0
  IsCopiedFrom x [] = x < first
  IsCopiedFrom x (c ∷ cs) = IsConfinedFrom x (c ∷ cs)

  abbrev mutual
    -- The paths of an expression are so.
    pub ExpressionIsConfined : ExpressionForm → Type 0
    ExpressionIsConfined (integer i) = Unit {0}
    ExpressionIsConfined (boolean b) = Unit {0}
    ExpressionIsConfined (reads path) = PathIsConfined path
    ExpressionIsConfined (is_null equal path) = PathIsConfined path
    ExpressionIsConfined (applied_to operator e) = ExpressionIsConfined e
    ExpressionIsConfined (chained e links) = ExpressionIsConfined e × LinksAreConfined links

    -- Those of operands are.
    pub LinksAreConfined : LinksForm → Type 0
    LinksAreConfined no_more_links = Unit {0}
    LinksAreConfined (a_link operator e links) = ExpressionIsConfined e × LinksAreConfined links

  -- Those of a condition are, where there is one.
  abbrev pub ConditionIsConfined : Option ExpressionForm → Type 0
  ConditionIsConfined None = Unit {0}
  ConditionIsConfined (Some e) = ExpressionIsConfined e

  -- Those of an item are, and so is the way to a record that it copies.
  abbrev pub ItemIsConfined : ItemForm → Type 0
  ItemIsConfined null_item = Unit {0}
  ItemIsConfined (item_of_path path) = PathIsConfined path
  ItemIsConfined (item_of_value e) = ExpressionIsConfined e
  ItemIsConfined (item_of_record p) = IsCopiedFrom p.object.root p.object.selectors

  -- Those of all of these items are.
  abbrev pub ItemsAreConfined : List ItemForm → Type 0
  ItemsAreConfined [] = Unit {0}
  ItemsAreConfined (i ∷ is) = ItemIsConfined i × ItemsAreConfined is

  -- Those of what is assigned are.
  abbrev pub RightIsConfined : RightForm → Type 0
  RightIsConfined nothing = Unit {0}
  RightIsConfined (value_of path) = PathIsConfined path
  RightIsConfined (allocates access items) = ItemsAreConfined items
  RightIsConfined (allocates_default access) = Unit {0}
  RightIsConfined (computes e) = ExpressionIsConfined e

  -- A declaration of something other than a record object.
  abbrev pub DeclarationIsConfined : DeclarationForm → Type 0
  DeclarationIsConfined (creates_pool p) = Unit {0}
  DeclarationIsConfined (collects access) = Unit {0}
  DeclarationIsConfined (declares x right) = IsVariable first x × RightIsConfined right
  DeclarationIsConfined (declares_record x t initial) = ⊥

  -- All of these declarations are such.
  abbrev pub DeclarationsAreConfined : List DeclarationForm → Type 0
  DeclarationsAreConfined [] = Unit {0}
  DeclarationsAreConfined (d ∷ ds) = DeclarationIsConfined d × DeclarationsAreConfined ds

  abbrev mutual
    -- A statement that calls nothing.
    pub StatementIsConfined : StmtForm → Type 0
    StatementIsConfined skips = Unit {0}
    StatementIsConfined (assigns target right) = PathIsConfined target × RightIsConfined right
    StatementIsConfined (assigns_record target items) = IsCopiedFrom target.object.root target.object.selectors × ItemsAreConfined items
    StatementIsConfined (frees access path) = PathIsConfined path
    StatementIsConfined (gets target) = PathIsConfined target
    StatementIsConfined (writes e) = ExpressionIsConfined e
    StatementIsConfined (writes_text text) = Unit {0}
    StatementIsConfined (chooses branches) = BranchesAreConfined branches
    StatementIsConfined (repeats condition fs spot) = ConditionIsConfined condition × StatementsAreConfined fs
    StatementIsConfined (counts x low high fs spot) = IsVariable first x × ExpressionIsConfined low × ExpressionIsConfined high × StatementsAreConfined fs
    StatementIsConfined (exits condition spot) = ConditionIsConfined condition
    StatementIsConfined (calls procedure actuals) = ⊥
    StatementIsConfined (returns spot) = Unit {0}
    StatementIsConfined (raises e) = Unit {0}
    StatementIsConfined (encloses ds fs hs) = DeclarationsAreConfined ds × StatementsAreConfined fs × HandlersAreConfined hs

    -- Statements that are such.
    pub StatementsAreConfined : StmtsForm → Type 0
    StatementsAreConfined no_stmts = Unit {0}
    StatementsAreConfined (a_stmt f fs) = StatementIsConfined f × StatementsAreConfined fs

    -- Branches of such statements (5.3).
    pub BranchesAreConfined : BranchesForm → Type 0
    BranchesAreConfined (otherwise fs) = StatementsAreConfined fs
    BranchesAreConfined (a_branch e fs branches) = ExpressionIsConfined e × StatementsAreConfined fs × BranchesAreConfined branches

    -- Handlers of such statements (11.2).
    pub HandlersAreConfined : HandlersForm → Type 0
    HandlersAreConfined no_handlers = Unit {0}
    HandlersAreConfined (a_handler choices fs hs) = StatementsAreConfined fs × HandlersAreConfined hs

-- A component of the object is one of the formal parameter that the body may reach.
abbrev pub IsReached : View → (reaches : ℕ → Bool) → (component : ℕ) → Type 0
IsReached w reaches c = (d : ℕ) × (c ≡ w.base + d) × (reaches d ≡ true)

-- Such a component of the object is stored to, if one of the object is.
abbrev pub StoresReached : View → (reaches : ℕ → Bool) → Value → (component : ℕ) → Type 0
StoresReached w reaches v c = IsOther w.object v ⊎ ((v ≡ Names w.object) × IsReached w reaches c)

-- What is left to do is of such forms, and neither the end of a call nor anything of an operation that has begun on a controlled part (7.6). Where controlled
-- parts are yet to be treated, they are those of another object; and so is what ceases to exist (13.11.2).
abbrev pub FrameIsConfined : View → (reaches : ℕ → Bool) → Frame Value → Type 0
FrameIsConfined w reaches (frame.Elaborates ds fs hs) =
    DeclarationsAreConfined w.tracks.first reaches ds × StatementsAreConfined w.tracks.first reaches fs × HandlersAreConfined w.tracks.first reaches hs
FrameIsConfined w reaches (frame.Does fs) = StatementsAreConfined w.tracks.first reaches fs
FrameIsConfined w reaches (frame.Decides fs branches) = StatementsAreConfined w.tracks.first reaches fs × BranchesAreConfined w.tracks.first reaches branches
FrameIsConfined w reaches (frame.Repeats condition fs) = ConditionIsConfined w.tracks.first reaches condition × StatementsAreConfined w.tracks.first reaches fs
FrameIsConfined w reaches (frame.Turns condition fs) = ExpressionIsConfined w.tracks.first reaches condition × StatementsAreConfined w.tracks.first reaches fs
FrameIsConfined w reaches (frame.Ranges x fs) = IsVariable w.tracks.first x × StatementsAreConfined w.tracks.first reaches fs
FrameIsConfined w reaches (frame.Counts x value last fs) = IsVariable w.tracks.first x × StatementsAreConfined w.tracks.first reaches fs
FrameIsConfined w reaches frame.Exits = Unit {0}
FrameIsConfined w reaches (frame.Handles hs) = HandlersAreConfined w.tracks.first reaches hs
FrameIsConfined w reaches frame.Closes = Unit {0}
FrameIsConfined w reaches (frame.Leaves mode) = Unit {0}
FrameIsConfined w reaches (frame.Calls procedure b actuals) = ⊥
FrameIsConfined w reaches (frame.Returns actuals references) = ⊥
FrameIsConfined w reaches (frame.Evaluates right) = RightIsConfined w.tracks.first reaches right
FrameIsConfined w reaches (frame.Computes e) = ExpressionIsConfined w.tracks.first reaches e
FrameIsConfined w reaches (frame.Follows cs) = Unit {0}
FrameIsConfined w reaches (frame.TestsNull equal) = Unit {0}
FrameIsConfined w reaches (frame.Refers p) = ⊥
FrameIsConfined w reaches (frame.RefersIn place t) = ⊥
FrameIsConfined w reaches (frame.Opens path) = ⊥
FrameIsConfined w reaches (frame.OpensIn c) = ⊥
FrameIsConfined w reaches (frame.Continues links) = LinksAreConfined w.tracks.first reaches links
FrameIsConfined w reaches (frame.Applies operator) = Unit {0}
FrameIsConfined w reaches (frame.AppliesAlone operator) = Unit {0}
FrameIsConfined w reaches (frame.Fills items) = ItemsAreConfined w.tracks.first reaches items
FrameIsConfined w reaches (frame.Copies c t) = Unit {0}
FrameIsConfined w reaches (frame.Creates access count) = Unit {0}
FrameIsConfined w reaches (frame.Stores x) = IsVariable w.tracks.first x
FrameIsConfined w reaches (frame.Targets c right) = RightIsConfined w.tracks.first reaches right
FrameIsConfined w reaches (frame.StoresIn v c) = StoresReached w reaches v c
FrameIsConfined w reaches (frame.TargetsRecord c t items) = ItemsAreConfined w.tracks.first reaches items
FrameIsConfined w reaches (frame.StoresRecord v c count) = Unit {0}
FrameIsConfined w reaches (frame.Assigns t) = ⊥
FrameIsConfined w reaches (frame.Receives c) = Unit {0}
FrameIsConfined w reaches (frame.FreesIn access c) = Unit {0}
FrameIsConfined w reaches (frame.Declares x) = IsVariable w.tracks.first x
FrameIsConfined w reaches (frame.DeclaresRecord x t) = ⊥
FrameIsConfined w reaches (frame.Treats v treatment tasks) = IsOther w.object v
FrameIsConfined w reaches (frame.Awaits v by done of part tasks) = ⊥
FrameIsConfined w reaches frame.Confines = ⊥
FrameIsConfined w reaches (frame.Resumes mode) = ⊥
FrameIsConfined w reaches frame.Writes = Unit {0}
FrameIsConfined w reaches (frame.Ends v) = IsOther w.object v
FrameIsConfined w reaches (frame.GivesBack v cause pool) = IsOther w.object v
FrameIsConfined w reaches (frame.Clears x) = IsVariable w.tracks.first x
FrameIsConfined w reaches (frame.ClearsIn v c) = StoresReached w reaches v c

-- All that is left to do of a body is so, up to the end of its call.
abbrev pub BodyIsConfined : View → (reaches : ℕ → Bool) → List (Frame Value) → Type 0
BodyIsConfined w reaches [] = Unit {0}
BodyIsConfined w reaches (f ∷ k) = UnlessItEnds (is_return f) (FrameIsConfined w reaches f × BodyIsConfined w reaches k)

-- Where a component is about to be assigned or read to, or what it holds is about to be freed, and no jump is on its way, the newest operand leads to another object, or that component is one that the
-- body may reach.
abbrev pub OperandsAreConfined : View → (reaches : ℕ → Bool) → Mode → List (Frame Value) → (operands : List Value) → Type 0
OperandsAreConfined w reaches Running (frame.Targets c right ∷ k) vs = StoresReached w reaches (first_or Null vs) c
OperandsAreConfined w reaches Running (frame.Receives c ∷ k) vs = StoresReached w reaches (first_or Null vs) c
OperandsAreConfined w reaches Running (frame.FreesIn access c ∷ k) vs = StoresReached w reaches (first_or Null vs) c
OperandsAreConfined w reaches m k vs = Unit {0}

-- The body of an operation runs that is so.
pub record IsConfined (w : View) (reaches : ℕ → Bool) (s : State) : Type 0 where
  pub control : BodyIsConfined w reaches s.control
  pub operands : OperandsAreConfined w reaches s.mode s.control (operands s)
