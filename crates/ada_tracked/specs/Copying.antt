-- What the next step of a body copies of the object that is watched (4.3.1), or stores there as a record (5.2): none of some components. And no record with
-- controlled parts is assigned.

use Rattle.std.specs.Prelude.{◌≡◌, ℕ, ◌+◌, ◌<◌, Bool, true, false, List, [], ◌∷◌, is_some}
use Rattle.ada_program.specs.declared.program.TypeDefinition.{TypeDefinition}
use Rattle.ada_program.specs.Form.{assigns_record, StmtsForm, a_stmt}
use Rattle.ada_program.specs.Typed.{width_of}
use Rattle.ada_meaning.specs.declared.state.Id.{Id}
use Rattle.ada_meaning.specs.declared.state.Mode.{Mode}
use Rattle.ada_meaning.specs.declared.state.Mode.TheVariants.{Running}
use Rattle.ada_meaning.specs.declared.state.Value.{Value}
use Rattle.ada_meaning.specs.Frame.{Frame}
use Rattle.ada_meaning.specs.Frame as frame
use Rattle.ada_meaning.specs.Step.{has_parts, newest}
use Rattle.ada_meaning.specs.Named.{State, named}
use Rattle.ada_tracked.specs.Frames.{View, number_of}
use Rattle.ada_tracked.specs.Seen.{leads_to}

-- None of so many components, from the first on, is one of these.
abbrev pub AreNoneOf : (these : (component : ℕ) → Bool) → (first count : ℕ) → Type 0
AreNoneOf these first count = (i : ℕ) → i < count → these (first + i) ≡ false

-- The first of some statements assigns no record with controlled parts as a whole (5.2, 7.6).
abbrev pub StatementsAssignBare : List TypeDefinition → StmtsForm → Type 0
StatementsAssignBare types (a_stmt (assigns_record target items) fs) = has_parts types target.record_type ≡ false
StatementsAssignBare types fs = Unit {0}

-- Nor does the first of what is left to do, in a mode: a jump assigns nothing.
abbrev pub FirstAssignsBare : List TypeDefinition → Mode → List (Frame Value) → Type 0
FirstAssignsBare types Running (frame.Does fs ∷ k) = StatementsAssignBare types fs
FirstAssignsBare types m k = Unit {0}

-- Nor does the next step of a state.
abbrev pub AssignsBare : List TypeDefinition → State → Type 0
AssignsBare types s = FirstAssignsBare types s.mode s.control

module _ (types : List TypeDefinition) (o : Id) (these : (component : ℕ) → Bool) (s : State) where
  -- A frame copies a record out of the object, or stores one there, whose components are none of these, or in another one; and a record that is assigned has no
  -- controlled parts.
  abbrev pub FrameCopiesNone : Frame Value → Type 0
  FrameCopiesNone (frame.Copies first t) = leads_to o (newest named s) ≡ true → AreNoneOf these first (width_of types t)
  FrameCopiesNone (frame.StoresRecord v first count) = leads_to o v ≡ true → AreNoneOf these first count
  FrameCopiesNone (frame.Does fs) = StatementsAssignBare types fs
  FrameCopiesNone f = Unit {0}

  -- The first of what is left to do does so, in a mode: a jump copies nothing.
  abbrev pub FirstCopiesNone : Mode → List (Frame Value) → Type 0
  FirstCopiesNone m [] = Unit {0}
  FirstCopiesNone Running (f ∷ k) = FrameCopiesNone f
  FirstCopiesNone m (f ∷ k) = Unit {0}

-- The next step of a state copies and stores none of these components of the object with a record, and assigns no record with controlled parts.
abbrev pub CopiesNone : List TypeDefinition → Id → (these : (component : ℕ) → Bool) → State → Type 0
CopiesNone types o these s = FirstCopiesNone types o these s s.mode s.control

-- Is a component of the object tracked?
abbrev pub is_tracked_at : View → (component : ℕ) → Bool
is_tracked_at w c = is_some (number_of w c)
