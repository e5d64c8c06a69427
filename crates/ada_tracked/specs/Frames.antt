-- What is left to do, and the heap, as they are judged where the components of an object are tracked.

use Rattle.std.specs.Prelude.{ℕ, ◌+◌, Bool, true, false, ◌==◌, if◌then◌else◌, List, [], ◌∷◌, ◌++◌, Option, Some, None}
use Rattle.std.specs.List.{slice_index_or, slice_set}
use Rattle.ada_meaning.specs.declared.state.Id.{Id}
use Rattle.ada_meaning.specs.declared.state.Value.{Value}
use Rattle.ada_meaning.specs.declared.state.Value.TheVariants.{Null, Names, Scalar, Part}
use Rattle.ada_meaning.specs.Frame.{Frame, is_return}
use Rattle.ada_meaning.specs.Frame as frame
use Rattle.ada_meaning.specs.State.{Activation}
use Rattle.ada_meaning.specs.Named.{Object, State, object_at, on_object}
use Rattle.ada_flow.specs.Tracking.{Tracks}
use Rattle.ada_tracked.specs.Forms.{seen_expression, seen_links, seen_condition, seen_items, seen_right, seen_declarations, seen_stmts, seen_branches, seen_handlers}

-- What stands for what: a body tracks components of its formal parameter, which is a record that lies in an object, from the component `base` on.
pub record View : Type 0 where
  pub tracks : Tracks
  pub object : Id
  pub base : ℕ

-- The components of an object that are those of a record which begins with the component `base`.
abbrev pub shifted : (base : ℕ) → (components : List ℕ) → List ℕ
shifted base [] = []
shifted base (c ∷ cs) = (base + c) ∷ shifted base cs

-- The components of the object that are tracked, in order.
abbrev pub watched : View → List ℕ
watched w = shifted w.base w.tracks.components

-- The number of the variable that stands for a component of the object, where these are tracked, from a number on: none, where it is not tracked.
abbrev pub number_at : (components : List ℕ) → (number component : ℕ) → Option ℕ
number_at [] n c = None
number_at (b ∷ bs) n c = if c == b then Some n else number_at bs (n + 1) c

-- The variable that stands for a component of the object, if one does.
abbrev pub number_of : View → (component : ℕ) → Option ℕ
number_of w c = number_at (watched w) w.tracks.first c

-- The same of a component of the object that a value names.
abbrev pub number_in : View → Value → (component : ℕ) → Option ℕ
number_in w Null c = None
number_in w (Names o) c = if o.0 == w.object.0 then number_of w c else None
number_in w (Scalar v) c = None
number_in w (Part o place) c = None

-- What is stored in a component (5.2), or in the variable that stands for it.
abbrev pub stored_as : Option ℕ → Value → (component : ℕ) → Frame Value
stored_as None o c = frame.StoresIn o c
stored_as (Some x) o c = frame.Stores x

-- A component becomes null, or the variable that stands for it (13.11.2).
abbrev pub cleared_as : Option ℕ → Value → (component : ℕ) → Frame Value
cleared_as None o c = frame.ClearsIn o c
cleared_as (Some x) o c = frame.Clears x

-- What is left to do, as it is judged.
abbrev pub seen_frame : View → Frame Value → Frame Value
seen_frame w (frame.Elaborates ds fs hs) =
    frame.Elaborates (seen_declarations w.tracks ds) (seen_stmts w.tracks fs) (seen_handlers w.tracks hs)
seen_frame w (frame.Does fs) = frame.Does (seen_stmts w.tracks fs)
seen_frame w (frame.Decides fs branches) = frame.Decides (seen_stmts w.tracks fs) (seen_branches w.tracks branches)
seen_frame w (frame.Repeats condition fs) = frame.Repeats (seen_condition w.tracks condition) (seen_stmts w.tracks fs)
seen_frame w (frame.Turns condition fs) = frame.Turns (seen_expression w.tracks condition) (seen_stmts w.tracks fs)
seen_frame w (frame.Ranges x fs) = frame.Ranges x (seen_stmts w.tracks fs)
seen_frame w (frame.Counts x value last fs) = frame.Counts x value last (seen_stmts w.tracks fs)
seen_frame w frame.Exits = frame.Exits
seen_frame w (frame.Handles hs) = frame.Handles (seen_handlers w.tracks hs)
seen_frame w frame.Closes = frame.Closes
seen_frame w (frame.Leaves mode) = frame.Leaves mode
seen_frame w (frame.Calls procedure b actuals) = frame.Calls procedure b actuals
seen_frame w (frame.Returns actuals references) = frame.Returns actuals references
seen_frame w (frame.Evaluates right) = frame.Evaluates (seen_right w.tracks right)
seen_frame w (frame.Computes e) = frame.Computes (seen_expression w.tracks e)
seen_frame w (frame.Follows cs) = frame.Follows cs
seen_frame w (frame.TestsNull equal) = frame.TestsNull equal
seen_frame w (frame.Refers p) = frame.Refers p
seen_frame w (frame.RefersIn place t) = frame.RefersIn place t
seen_frame w (frame.Opens path) = frame.Opens path
seen_frame w (frame.OpensIn c) = frame.OpensIn c
seen_frame w (frame.Continues links) = frame.Continues (seen_links w.tracks links)
seen_frame w (frame.Applies operator) = frame.Applies operator
seen_frame w (frame.AppliesAlone operator) = frame.AppliesAlone operator
seen_frame w (frame.Fills items) = frame.Fills (seen_items w.tracks items)
seen_frame w (frame.Copies first t) = frame.Copies first t
seen_frame w (frame.Creates access count) = frame.Creates access count
seen_frame w (frame.Stores x) = frame.Stores x
seen_frame w (frame.Targets c right) = frame.Targets c (seen_right w.tracks right)
seen_frame w (frame.StoresIn o c) = stored_as (number_in w o c) o c
seen_frame w (frame.TargetsRecord first t items) = frame.TargetsRecord first t (seen_items w.tracks items)
seen_frame w (frame.StoresRecord o first count) = frame.StoresRecord o first count
seen_frame w (frame.Assigns t) = frame.Assigns t
seen_frame w (frame.Receives c) = frame.Receives c
seen_frame w (frame.FreesIn access c) = frame.FreesIn access c
seen_frame w (frame.Declares x) = frame.Declares x
seen_frame w (frame.DeclaresRecord x t) = frame.DeclaresRecord x t
seen_frame w (frame.Treats v treatment tasks) = frame.Treats v treatment tasks
seen_frame w (frame.Awaits v by done of part tasks) = frame.Awaits v by done of part tasks
seen_frame w frame.Confines = frame.Confines
seen_frame w (frame.Resumes mode) = frame.Resumes mode
seen_frame w frame.Writes = frame.Writes
seen_frame w (frame.Ends v) = frame.Ends v
seen_frame w (frame.GivesBack v cause pool) = frame.GivesBack v cause pool
seen_frame w (frame.Clears x) = frame.Clears x
seen_frame w (frame.ClearsIn o c) = cleared_as (number_in w o c) o c

-- What is left behind a frame stays as it is, where the body ends with that, and else is judged too.
abbrev pub in_front_of : (ends : Bool) → (first seen : Frame Value) → (behind seen_behind : List (Frame Value)) → List (Frame Value)
in_front_of true f g k l = f ∷ k
in_front_of false f g k l = g ∷ l

-- All that is left to do of the body, up to the end of its call; what is behind stays as it is.
abbrev pub seen_control : View → List (Frame Value) → List (Frame Value)
seen_control w [] = []
seen_control w (f ∷ k) = in_front_of (is_return f) f (seen_frame w f) k (seen_control w k)

-- Components that hold null.
abbrev pub blank_values : (components : List ℕ) → List Value → List Value
blank_values [] vs = vs
blank_values (b ∷ bs) vs = slice_set (blank_values bs vs) b Null

-- An object in which these components hold null.
abbrev pub blank_object : (components : List ℕ) → Object → Object
blank_object bs x = record x { cell = record (x.cell) { values = blank_values bs x.cell.values } }

-- The heap in which the tracked components of the object hold null.
abbrev pub blanked : View → List Object → List Object
blanked w objects = on_object (blank_object (watched w)) objects (Names w.object)

-- What these components hold.
abbrev pub values_at : (components : List ℕ) → List Value → List Value
values_at [] vs = []
values_at (b ∷ bs) vs = slice_index_or vs b Null ∷ values_at bs vs

-- What the components of an object hold, if there is one.
abbrev pub values_of : Option Object → List Value
values_of None = []
values_of (Some x) = x.cell.values

-- What the tracked components hold.
abbrev pub tracked_values : View → List Object → List Value
tracked_values w objects = values_at (watched w) (values_of (object_at objects w.object))

-- The running activation has variables more, which hold these values, and these operands.
abbrev pub standing_activations : (more operands : List Value) → List (Activation Value) → List (Activation Value)
standing_activations more vs [] = []
standing_activations more vs (a ∷ suspended) = record a { places = a.places ++ more; operands = vs } ∷ suspended

-- A state in which a variable stands for each tracked component, with this left to do and these operands.
abbrev pub standing : View → State → List (Frame Value) → (operands : List Value) → State
standing w s k vs = record s {
  activations = standing_activations (tracked_values w s.heap) vs s.activations;
  control = k;
  heap = blanked w s.heap;
}
