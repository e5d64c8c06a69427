-- The premises of the law are met, and needed.

use Rattle.std.specs.Prelude.{◌≡◌, ℕ, true, List, Some}
use Rattle.ada_program.specs.declared.program.TypeDefinition.{TypeDefinition}
use Rattle.ada_program.specs.ProgramForm.{BodyForm}
use Rattle.ada_meaning.specs.declared.state.Id.{Id}
use Rattle.ada_meaning.specs.declared.state.Value.{Value}
use Rattle.ada_meaning.specs.declared.state.Value.TheVariants.{Names}
use Rattle.ada_meaning.specs.Event.{Followed}
use Rattle.ada_meaning.specs.Records.{component_in}
use Rattle.ada_meaning.specs.Step.{moves, newest}
use Rattle.ada_meaning.specs.Named.{Object, State, named, object_at, next}
use Rattle.ada_tracked.specs.Frames.{View}
use Rattle.ada_untouched.specs.Untouched.{Untouched}
use Rattle.ada_untouched.specs.Unwritten.{Unwritten}
use Rattle.ada_waiting.specs.Before.{Waiting, before, RunsItself}
use Rattle.ada_hidden.specs.Hidden.{is_hidden, no_ghosts, blanked_state, NextInFront}
use Rattle.ada_hidden.specs.Law.{RunsBeside}

-- A hidden component of an object names something.
abbrev pub HidesName : View → State → Type 0
HidesName v s = (component : ℕ) × (o : Id) × (is_hidden v v.object component ≡ true) × (component_in (object_at s.heap v.object) component ≡ Some (Names o))

-- A body that has been called follows a component of the object (4.1.3), beside a hidden one that names something, and finds the name of an object; where the
-- other one is hidden, and something else waits, it does so, too.
pub record FollowsBeside (types : List TypeDefinition) (bodies : List BodyForm) (v : View) (w u : Waiting Value) (front after : State) : Type 0 where
  pub runs : RunsBeside types v front
  pub hides : HidesName v front
  pub differs : w ≡ u → ⊥
  pub follows : next types bodies (before w front) ≡ moves (Followed (Names v.object)) (before w after)
  pub follows_too : next types bodies (before u (blanked_state v front)) ≡ moves (Followed (Names v.object)) (before u (blanked_state v after))
  pub finds : (o : Id) × (newest named after ≡ Names o)
  pub hides_still : HidesName v after

-- So one does somewhere.
abbrev pub PremisesAreMet : Type 0
PremisesAreMet =
    (types : List TypeDefinition) × (bodies : List BodyForm) × (v : View) × (w : Waiting Value) × (u : Waiting Value) × (front : State) × (after : State)
    × FollowsBeside types bodies v w u front after

-- The steps of a body are not the same where the components are hidden.
abbrev pub StepsDiffer : List TypeDefinition → List BodyForm → View → Waiting Value → State → Type 0
StepsDiffer types bodies v w front =
    NextInFront v w w (next types bodies front) (next types bodies (before w front)) (next types bodies (before w (blanked_state v front))) → ⊥

-- Such a body reads a hidden component, and meets the other premises.
pub record ReadsHidden (types : List TypeDefinition) (bodies : List BodyForm) (v : View) (w : Waiting Value) (front : State) : Type 0 where
  pub runs : RunsItself front.control front.activations
  pub there : (x : Object) × (object_at front.heap v.object ≡ Some x)
  pub unwritten : Unwritten (is_hidden v) front
  pub differ : StepsDiffer types bodies v w front

-- Or it writes one.
pub record WritesHidden (types : List TypeDefinition) (bodies : List BodyForm) (v : View) (w : Waiting Value) (front : State) : Type 0 where
  pub runs : RunsItself front.control front.activations
  pub there : (x : Object) × (object_at front.heap v.object ≡ Some x)
  pub untouched : Untouched types (is_hidden v) no_ghosts front
  pub differ : StepsDiffer types bodies v w front

-- Or the object in which they are to be hidden is not there yet, and it creates it.
pub record CreatesHidden (types : List TypeDefinition) (bodies : List BodyForm) (v : View) (w : Waiting Value) (front : State) : Type 0 where
  pub runs : RunsItself front.control front.activations
  pub untouched : Untouched types (is_hidden v) no_ghosts front
  pub unwritten : Unwritten (is_hidden v) front
  pub differ : StepsDiffer types bodies v w front

-- Each of them is somewhere.
abbrev pub PremisesAreNeeded : Type 0
PremisesAreNeeded =
    ((types : List TypeDefinition) × (bodies : List BodyForm) × (v : View) × (w : Waiting Value) × (front : State) × ReadsHidden types bodies v w front)
    × ((types : List TypeDefinition) × (bodies : List BodyForm) × (v : View) × (w : Waiting Value) × (front : State) × WritesHidden types bodies v w front)
    × ((types : List TypeDefinition) × (bodies : List BodyForm) × (v : View) × (w : Waiting Value) × (front : State) × CreatesHidden types bodies v w front)
