-- The law: neither what waits nor what is hidden matters to a step of a body that has been called.

use Rattle.std.specs.Prelude.{◌≡◌, List, Some}
use Rattle.ada_program.specs.declared.program.TypeDefinition.{TypeDefinition}
use Rattle.ada_program.specs.ProgramForm.{BodyForm}
use Rattle.ada_meaning.specs.declared.state.Value.{Value}
use Rattle.ada_meaning.specs.Named.{Object, State, object_at, next}
use Rattle.ada_tracked.specs.Frames.{View}
use Rattle.ada_untouched.specs.Untouched.{Untouched}
use Rattle.ada_untouched.specs.Unwritten.{Unwritten}
use Rattle.ada_waiting.specs.Before.{Waiting, before, RunsItself}
use Rattle.ada_hidden.specs.Hidden.{is_hidden, no_ghosts, blanked_state, NextInFront}

-- A body runs that has been called, and its step neither looks at a hidden component nor writes one; the object in which they lie is there.
pub record RunsBeside (types : List TypeDefinition) (v : View) (front : State) : Type 0 where
  pub runs : RunsItself front.control front.activations
  pub there : (x : Object) × (object_at front.heap v.object ≡ Some x)
  pub untouched : Untouched types (is_hidden v) no_ghosts front
  pub unwritten : Unwritten (is_hidden v) front

-- Then its step is the same where they are hidden, and where something else waits; and both stay as they are.
abbrev pub StepsAreTheSame : Type 0
StepsAreTheSame =
    (types : List TypeDefinition) (bodies : List BodyForm) (v : View) (w u : Waiting Value) (front : State) → RunsBeside types v front
    → NextInFront v w u (next types bodies front) (next types bodies (before w front)) (next types bodies (before u (blanked_state v front)))
