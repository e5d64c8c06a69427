-- What the next step writes, by the first of what is left to do: no hidden component.

use Rattle.std.specs.Prelude.{ℕ, Bool, List, [], ◌∷◌}
use Rattle.ada_meaning.specs.declared.state.Id.{Id}
use Rattle.ada_meaning.specs.declared.state.Mode.{Mode}
use Rattle.ada_meaning.specs.declared.state.Mode.TheVariants.{Running, Raising, Exiting, Returning}
use Rattle.ada_meaning.specs.declared.state.Value.{Value}
use Rattle.ada_meaning.specs.Frame.{Frame}
use Rattle.ada_meaning.specs.Frame as frame
use Rattle.ada_meaning.specs.Step.{newest}
use Rattle.ada_meaning.specs.Named.{State, named}
use Rattle.ada_untouched.specs.Untouched.{IsShown, AreShown}

module _ (hidden : Id → (component : ℕ) → Bool) (s : State) where
  -- A frame writes no hidden component as it assigns (5.2), receives input, copies an `in out` parameter back (6.4.1) or sets null for a Free (13.11.2).
  abbrev pub FrameWritesShown : Frame Value → Type 0
  FrameWritesShown (frame.StoresIn v c) = IsShown hidden v c
  FrameWritesShown (frame.StoresRecord v first count) = AreShown hidden v first count
  FrameWritesShown (frame.Receives c) = IsShown hidden (newest named s) c
  FrameWritesShown (frame.ClearsIn v c) = IsShown hidden v c
  FrameWritesShown f = Unit {0}

  -- The first of what is left to do writes none, in a mode: a jump never does.
  abbrev pub FirstWritesShown : Mode → List (Frame Value) → Type 0
  FirstWritesShown m [] = Unit {0}
  FirstWritesShown Running (f ∷ k) = FrameWritesShown f
  FirstWritesShown (Raising e) (f ∷ k) = Unit {0}
  FirstWritesShown Exiting (f ∷ k) = Unit {0}
  FirstWritesShown Returning (f ∷ k) = Unit {0}

-- The next step writes no hidden component.
abbrev pub Unwritten : (hidden : Id → (component : ℕ) → Bool) → State → Type 0
Unwritten hidden s = FirstWritesShown hidden s s.mode s.control
