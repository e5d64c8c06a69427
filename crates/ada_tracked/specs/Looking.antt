-- What the next step of a body looks at: at the object that is watched only where a path begins with the formal parameter, or where a record is copied, or
-- assigned to, that the formal parameter is or has in it. Access values that name it may be read, moved, stored and compared with null; the body follows none of them, and frees none.

use Rattle.std.specs.Prelude.{◌≡◌, ℕ, zero, suc, Bool, true, false, List, [], ◌∷◌, Some}
use Rattle.std.specs.List.{slice_get}
use Rattle.ada_program.specs.Form.{PathForm, ExpressionForm, reads, is_null, ItemForm, item_of_path, item_of_record, RightForm, value_of, assigns, assigns_record, frees, gets, StmtsForm, a_stmt}
use Rattle.ada_meaning.specs.declared.state.Id.{Id}
use Rattle.ada_meaning.specs.declared.state.Mode.{Mode}
use Rattle.ada_meaning.specs.declared.state.Mode.TheVariants.{Running}
use Rattle.ada_meaning.specs.declared.state.Value.{Value}
use Rattle.ada_meaning.specs.Frame.{Frame}
use Rattle.ada_meaning.specs.Frame as frame
use Rattle.ada_meaning.specs.Heap.{Cell, finds}
use Rattle.ada_meaning.specs.Step.{held, newest, before_last}
use Rattle.ada_meaning.specs.Named.{Object, State, named, look, whole, inside}
use Rattle.ada_tracked.specs.Frames.{View}
use Rattle.ada_tracked.specs.Seen.{IsOther, awaits_holder}

module _ (o : Id) where
  -- A value is found for what waits behind it: for the object in which a component lies, if that is what waits, another one than this is found.
  abbrev pub LandsElsewhere : (awaits : Bool) → Value → Type 0
  LandsElsewhere false v = Unit {0}
  LandsElsewhere true v = IsOther o v

  -- A path follows what a variable holds (4.1): the first one is the formal parameter, and another one names another object, if it is followed.
  abbrev pub StartsElsewhere : (root : ℕ) → (selectors : List ℕ) → (root_holds : Value) → Type 0
  StartsElsewhere x [] v = Unit {0}
  StartsElsewhere zero (c ∷ cs) v = Unit {0}
  StartsElsewhere (suc x) (c ∷ cs) v = IsOther o (whole v)

  module _ (heap : List Object) where
    -- A component is read of the object that a value names; what it holds is found, if no more selectors follow.
    abbrev pub HoldsElsewhere : (awaits : Bool) → Value → (component : ℕ) → (selectors : List ℕ) → Type 0
    HoldsElsewhere awaits v c [] = (cell : Cell Value) (u : Value) → look heap v ≡ finds cell → slice_get cell.values c ≡ Some u → LandsElsewhere awaits u
    HoldsElsewhere awaits v c (d ∷ cs) = Unit {0}

    -- Selectors are followed from a value, which names another object.
    abbrev pub LeadsElsewhere : (awaits : Bool) → (selectors : List ℕ) → Value → Type 0
    LeadsElsewhere awaits [] v = LandsElsewhere awaits v
    LeadsElsewhere awaits (c ∷ cs) v = IsOther o v × HoldsElsewhere awaits v c cs

    -- A path leads to the object of its last component (4.1.3): that is the object of the formal parameter only where the path is one of its own components.
    abbrev pub HolderIsElsewhere : (root : ℕ) → (selectors : List ℕ) → (root_holds : Value) → Type 0
    HolderIsElsewhere x [] v = Unit {0}
    HolderIsElsewhere zero (c ∷ []) v = Unit {0}
    HolderIsElsewhere zero (c ∷ d ∷ cs) v = HoldsElsewhere true (whole v) (inside v c) (before_last d cs)
    HolderIsElsewhere (suc x) (c ∷ cs) v = LeadsElsewhere true (before_last (inside v c) cs) (whole v)

    -- What is freed (13.11.2): what a variable names is another object, or the component lies in one, or in the formal parameter.
    abbrev pub FreedIsElsewhere : (root : ℕ) → (selectors : List ℕ) → (root_holds : Value) → Type 0
    FreedIsElsewhere x [] v = IsOther o v
    FreedIsElsewhere x (c ∷ cs) v = HolderIsElsewhere x (c ∷ cs) v

module _ (o : Id) (s : State) where
  -- A path from its variable.
  abbrev pub PathLooksElsewhere : PathForm → Type 0
  PathLooksElsewhere path = StartsElsewhere o path.root path.selectors (held named s path.root)

  -- What an expression reads next (4.4).
  abbrev pub ExpressionLooksElsewhere : ExpressionForm → Type 0
  ExpressionLooksElsewhere (reads path) = PathLooksElsewhere path
  ExpressionLooksElsewhere (is_null equal path) = PathLooksElsewhere path
  ExpressionLooksElsewhere e = Unit {0}

  -- What the first of some items reads next (4.3.1).
  abbrev pub ItemsLookElsewhere : List ItemForm → Type 0
  ItemsLookElsewhere (item_of_path path ∷ is) = PathLooksElsewhere path
  ItemsLookElsewhere (item_of_record p ∷ is) = PathLooksElsewhere p.object
  ItemsLookElsewhere is = Unit {0}

  -- What an assignment reads next (5.2).
  abbrev pub RightLooksElsewhere : RightForm → Type 0
  RightLooksElsewhere (value_of path) = PathLooksElsewhere path
  RightLooksElsewhere right = Unit {0}

  -- What the first of some statements looks at as it begins (5.1).
  abbrev pub StatementsLookElsewhere : StmtsForm → Type 0
  StatementsLookElsewhere (a_stmt (assigns target right) fs) = HolderIsElsewhere o s.heap target.root target.selectors (held named s target.root)
  StatementsLookElsewhere (a_stmt (assigns_record target items) fs) = PathLooksElsewhere target.object
  StatementsLookElsewhere (a_stmt (frees access path) fs) = FreedIsElsewhere o s.heap path.root path.selectors (held named s path.root)
  StatementsLookElsewhere (a_stmt (gets target) fs) = HolderIsElsewhere o s.heap target.root target.selectors (held named s target.root)
  StatementsLookElsewhere fs = Unit {0}

  -- What a frame looks at: a component that is freed names another object.
  abbrev pub FrameLooksElsewhere : Frame Value → Type 0
  FrameLooksElsewhere (frame.Does fs) = StatementsLookElsewhere fs
  FrameLooksElsewhere (frame.Evaluates right) = RightLooksElsewhere right
  FrameLooksElsewhere (frame.Computes e) = ExpressionLooksElsewhere e
  FrameLooksElsewhere (frame.Fills items) = ItemsLookElsewhere items
  FrameLooksElsewhere (frame.FreesIn access c) =
      (cell : Cell Value) (u : Value) → look s.heap (newest named s) ≡ finds cell → slice_get cell.values c ≡ Some u → IsOther o u
  FrameLooksElsewhere f = Unit {0}

  -- Where no jump is on its way, a frame follows selectors from a value that names another object; or it looks at another one, and nothing behind it waits for an
  -- object yet.
  abbrev pub NextLooksElsewhere : Frame Value → (behind : List (Frame Value)) → Type 0
  NextLooksElsewhere (frame.Follows cs) k = LeadsElsewhere o s.heap (awaits_holder k) cs (newest named s)
  NextLooksElsewhere f k = (awaits_holder k ≡ false) × FrameLooksElsewhere f

  -- What the first of what is left to do looks at, in a mode: a jump looks at nothing.
  abbrev pub FirstLooksElsewhere : Mode → List (Frame Value) → Type 0
  FirstLooksElsewhere m [] = Unit {0}
  FirstLooksElsewhere Running (f ∷ k) = NextLooksElsewhere f k
  FirstLooksElsewhere m (f ∷ k) = awaits_holder k ≡ false

-- The next step of a state does so.
abbrev pub LooksElsewhere : View → State → Type 0
LooksElsewhere w s = FirstLooksElsewhere w.object s s.mode s.control
