-- Which state stands for which: the one that has a variable for each tracked component stands for the real one.

use Rattle.std.specs.Prelude.{◌≡◌, ℕ, ◌<◌, Bool, true, false, ◌==◌, List, [], ◌∷◌, length, Some, None}
use Rattle.ada_text.specs.declared.spot.Spot.{Spot}
use Rattle.ada_program.specs.declared.program.TypeDefinition.{TypeDefinition}
use Rattle.ada_program.specs.Form.{PathForm, RightForm, StmtForm, assigns, frees, gets, StmtsForm, a_stmt}
use Rattle.ada_program.specs.ProgramForm.{BodyForm}
use Rattle.ada_meaning.specs.declared.state.Id.{Id}
use Rattle.ada_meaning.specs.declared.state.Mode.{Mode}
use Rattle.ada_meaning.specs.declared.state.Mode.TheVariants.{Running}
use Rattle.ada_meaning.specs.declared.state.Stage.TheVariants.{Existing}
use Rattle.ada_meaning.specs.declared.state.Value.{Value}
use Rattle.ada_meaning.specs.declared.state.Value.TheVariants.{Null, Names, Scalar, Part}
use Rattle.ada_meaning.specs.Frame.{Frame}
use Rattle.ada_meaning.specs.Frame as frame
use Rattle.ada_meaning.specs.Step.{first_or, operands}
use Rattle.ada_meaning.specs.Named.{Object, State, object_at, next}
use Rattle.ada_flow.specs.Tracking.{Tracks}
use Rattle.ada_tracked.specs.Forms.{seen_right, seen_stmts}
use Rattle.ada_tracked.specs.Frames.{View, watched, number_of, seen_control, tracked_values, standing}

-- Does a value name this object, or refer to a part of it?
abbrev pub leads_to : Id → Value → Bool
leads_to o Null = false
leads_to o (Names p) = p.0 == o.0
leads_to o (Scalar v) = false
leads_to o (Part p place) = p.0 == o.0

-- It does not.
abbrev pub IsOther : Id → Value → Type 0
IsOther o v = leads_to o v ≡ false

-- What is left to do begins with a frame that waits for the object in which a component lies: to assign or read to it (5.2), or to free what it holds (13.11.2).
abbrev pub awaits_holder : List (Frame Value) → Bool
awaits_holder [] = false
awaits_holder (frame.Targets c right ∷ k) = true
awaits_holder (frame.Receives c ∷ k) = true
awaits_holder (frame.FreesIn access c ∷ k) = true
awaits_holder (f ∷ k) = false

-- Where it does, and no jump is on its way, the newest operand leads to another object.
abbrev pub HoldersAreOther : Id → Mode → List (Frame Value) → (operands : List Value) → Type 0
HoldersAreOther o Running (frame.Targets c right ∷ k) vs = IsOther o (first_or Null vs)
HoldersAreOther o Running (frame.Receives c ∷ k) vs = IsOther o (first_or Null vs)
HoldersAreOther o Running (frame.FreesIn access c ∷ k) vs = IsOther o (first_or Null vs)
HoldersAreOther o m k vs = Unit {0}

-- The state that stands for a real one, but between the steps that the real one takes for one of its own: each path in its forms is as it is judged, its
-- variables are the real ones and behind them what the tracked components hold, and these hold null.
abbrev pub seen_state : View → State → State
seen_state w s = standing w s (seen_control w s.control) (operands s)

-- What waits for the object in which a component lies: an assignment, a Get, or a Free by the instance for an access type.
pub data Waiting : Type 0 where
  assigning : RightForm → Waiting
  getting : Waiting
  freeing : (access : ℕ) → Waiting

-- The frame that waits for it, for this component.
abbrev pub waiting_frame : Waiting → (component : ℕ) → Frame Value
waiting_frame (assigning right) c = frame.Targets c right
waiting_frame getting c = frame.Receives c
waiting_frame (freeing access) c = frame.FreesIn access c

-- The statement of which it is, at a path, as it is judged.
abbrev pub waiting_statement : Tracks → Waiting → PathForm → StmtForm
waiting_statement tracks (assigning right) path = assigns path (seen_right tracks right)
waiting_statement tracks getting path = gets path
waiting_statement tracks (freeing access) path = frees access path

-- The path that is a variable alone.
abbrev pub variable_path : (x : ℕ) → Spot → PathForm
variable_path x spot = record { root = x; of_record = false; selectors = []; spot = spot }

-- Which state stands for a real one.
pub data Seen (types : List TypeDefinition) (bodies : List BodyForm) (w : View) (s t : State) : Type 0 where
  -- between statements, and mostly within them
  plainly : HoldersAreOther w.object s.mode s.control (operands s) → t ≡ seen_state w s → Seen types bodies w s t
  -- The real one has found the value of a tracked component, and what is named behind it is followed next. The other one does both in its next step: it does
  -- what a state does that has found the value.
  following :
      (c : ℕ) (cs : List ℕ) (k : List (Frame Value)) → s.mode ≡ Running → s.control ≡ frame.Follows (c ∷ cs) ∷ k
      → (l : List (Frame Value)) (vs : List Value) → t ≡ standing w s l vs
      → next types bodies t ≡ next types bodies (seen_state w s) → Seen types bodies w s t
  -- a component of the object that is not tracked is about to be assigned, read to or freed
  elsewhere :
      (waiting : Waiting) (c : ℕ) (k : List (Frame Value)) (vs : List Value) → s.mode ≡ Running → s.control ≡ waiting_frame waiting c ∷ k
      → operands s ≡ Names w.object ∷ vs → number_of w c ≡ None → t ≡ seen_state w s → Seen types bodies w s t
  -- A tracked one is about to be so. The other one is yet to begin the statement.
  behind :
      (waiting : Waiting) (c x : ℕ) (spot : Spot) (fs : StmtsForm) (k : List (Frame Value)) (vs : List Value) → s.mode ≡ Running
      → s.control ≡ waiting_frame waiting c ∷ frame.Does fs ∷ k → operands s ≡ Names w.object ∷ vs → number_of w c ≡ Some x
      → t ≡ standing w s (frame.Does (a_stmt (waiting_statement w.tracks waiting (variable_path x spot)) (seen_stmts w.tracks fs)) ∷ seen_control w k) vs
      → Seen types bodies w s t

-- Each of these numbers is below a bound.
abbrev pub AreBelow : (bound : ℕ) → List ℕ → Type 0
AreBelow n [] = Unit {0}
AreBelow n (c ∷ cs) = (c < n) × AreBelow n cs

-- A number is none of these.
abbrev pub IsNoneOf : ℕ → List ℕ → Type 0
IsNoneOf c [] = Unit {0}
IsNoneOf c (d ∷ ds) = ((c == d) ≡ false) × IsNoneOf c ds

-- No two of these numbers are one.
abbrev pub AreApart : List ℕ → Type 0
AreApart [] = Unit {0}
AreApart (c ∷ cs) = IsNoneOf c cs × AreApart cs

-- A value refers to no part of an object.
abbrev pub refers : Value → Bool
refers Null = false
refers (Names o) = false
refers (Scalar v) = false
refers (Part o place) = true

-- None of these values does.
abbrev pub AreNoReferences : List Value → Type 0
AreNoReferences [] = Unit {0}
AreNoReferences (v ∷ vs) = (refers v ≡ false) × AreNoReferences vs

-- The formal parameter refers to the record of the object.
abbrev pub IsFormal : View → Value → Type 0
IsFormal w Null = ⊥
IsFormal w (Names o) = ⊥
IsFormal w (Scalar v) = ⊥
IsFormal w (Part o place) = (o ≡ w.object) × (place.component ≡ w.base)

-- It is the first one of these variables.
abbrev pub FormalIsFirst : View → List Value → Type 0
FormalIsFirst w [] = ⊥
FormalIsFirst w (v ∷ vs) = IsFormal w v

-- What the law takes of what variables and the heap hold: the object exists and has the components that are tracked, which refer to no part of an object, and
-- the formal parameter refers to its record. Other variables and components may name it.
pub record IsWatched (w : View) (places : List Value) (heap : List Object) : Type 0 where
  pub object : Object
  pub at_object : object_at heap w.object ≡ Some object
  pub existing : object.stage ≡ Existing
  pub below : AreBelow (length object.cell.values) (watched w)
  pub apart : AreApart (watched w)
  pub no_references : AreNoReferences (tracked_values w heap)
  pub formal : FormalIsFirst w places
  pub count : length places ≡ w.tracks.first
