-- The premise of the law is met, and needed.

use Rattle.std.specs.Prelude.{◌≡◌, ℕ, List, ◌∷◌, Some}
use Rattle.std.specs.List.{slice_get}
use Rattle.ada_program.specs.declared.program.TypeDefinition.{TypeDefinition}
use Rattle.ada_program.specs.ProgramForm.{BodyForm}
use Rattle.ada_meaning.specs.declared.state.Value.{Value}
use Rattle.ada_meaning.specs.Event.{Quiet}
use Rattle.ada_meaning.specs.Frame.{Frame}
use Rattle.ada_meaning.specs.State.{Activation}
use Rattle.ada_meaning.specs.Step.{moves, places_of}
use Rattle.ada_meaning.specs.Named.{State, next}
use Rattle.ada_waiting.specs.Before.{Waiting, before, NextBefore, RunsItself}

-- The call of a body comes to its end, and a variable of its caller holds something else then (6.4.1, 6.5).
pub record GivesBack (types : List TypeDefinition) (bodies : List BodyForm) (s after : State) (x : ℕ) : Type 0 where
  pub running : Activation Value
  pub callers : List (Activation Value)
  pub called : s.activations ≡ running ∷ callers
  pub ends : next types bodies s ≡ moves Quiet after
  pub held : (v : Value) × (slice_get (places_of callers) x ≡ Some v)
  pub holds : (v : Value) × (slice_get (places_of after.activations) x ≡ Some v)
  pub differs : held.0 ≡ holds.0 → ⊥

-- It does so before something else that waits, which has an activation and something left to do.
pub record GivesBackBefore (types : List TypeDefinition) (bodies : List BodyForm) (w : Waiting Value) (s after : State) (x : ℕ) : Type 0 where
  pub runs : RunsItself s.control s.activations
  pub gives : GivesBack types bodies s after x
  pub waits : (f : Frame Value) × (k : List (Frame Value)) × (w.control ≡ f ∷ k)
  pub waits_too : (v : Value) × (slice_get (places_of w.activations) x ≡ Some v)
  pub goes_on : next types bodies (before w s) ≡ moves Quiet (before w after)

-- So it is somewhere.
abbrev pub PremiseIsMet : Type 0
PremiseIsMet =
    (types : List TypeDefinition) × (bodies : List BodyForm) × (w : Waiting Value) × (s : State) × (after : State) × (x : ℕ)
    × GivesBackBefore types bodies w s after x

-- The caller waits itself: a step of the state before it is not that of the state alone.
abbrev pub PremiseIsNeeded : Type 0
PremiseIsNeeded =
    (types : List TypeDefinition) × (bodies : List BodyForm) × (w : Waiting Value) × (s : State)
    × (NextBefore w (next types bodies s) (next types bodies (before w s)) → ⊥)
