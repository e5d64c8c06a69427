-- Where collections go up to one for whose objects operations may be called that touch storage (7.6.1), each step leads on there, or behind it.

use Rattle.std.proofs.Common.{◌≡◌, ℕ, Bool, List, ◌⊎◌, ◌≤◌, suc}
use Rattle.std.specs.Prelude.{Some}
use Rattle.std.specs.List.{slice_get}
use Rattle.ada_deeds.specs.Implicit.{implicit_of}
use Rattle.ada_program.specs.declared.program.Program.{Program}
use Rattle.ada_program.specs.ProgramForm.{program_form, seen_in}
use Rattle.ada_meaning.specs.declared.state.Value.{Value}
use Rattle.ada_meaning.specs.Event.{Quiet}
use Rattle.ada_meaning.specs.Named.{Object, State, Next}
use Rattle.ada_meaning.specs.Run.{Event}
use Rattle.ada_meaning.specs.State.{Activation}
use Rattle.ada_meaning.specs.Step.{halts, moves, tells, asks, picks}
use Rattle.ada_typed.proofs.Kept.{behind_call}
use Rattle.ada_sound.specs.Agreement.{running_procedure}
use Rattle.ada_sound.specs.Callees.{IsCovered}
use Rattle.ada_sound.proofs.Alters.{Alters}
use Rattle.ada_sound.proofs.Callers.{AreCalls}
use Rattle.ada_sound.proofs.Departing.{Departing}
use Rattle.ada_sound.proofs.Invariant.{EndsWell, Says}
use Rattle.ada_sound.proofs.Operating.{IsCalm}
use Rattle.ada_sound.proofs.Returns.{Crosses}

-- It goes on behind a step: what that does to objects, and that what is freed is known of the procedures that are under way.
pub record InDeparting (program : Program) (before : List Object) (e : Event) (after : State) : Type 0 where
  pub body : Departing program after
  pub alters : Alters before e after.heap
  pub says : Says (implicit_of (program_form program)) (seen_in (running_procedure after) (program_form program)) e before after
  pub covers : (depth : ℕ) (a : Activation Value) (number : ℕ) → slice_get after.activations depth ≡ Some a → a.procedure ≡ Some number → IsCovered program number e

-- Or they have gone, and no operation runs.
abbrev pub Went : Program → List Object → Event → State → Type 0
Went program before e after =
    InDeparting program before e after ⊎ ((c : Crosses program before e after) × IsCalm (behind_call after.control) × (AreCalls c.suspensions))

-- So it is whatever comes next.
abbrev pub GoesDeparting : Program → State → Next → Type 0
GoesDeparting program s (halts halt) = EndsWell halt s.heap s.masters
GoesDeparting program s (moves e after) = Went program s.heap e after
GoesDeparting program s (tells request e after) = Went program s.heap e after
GoesDeparting program s (asks request answered) = (granted : Bool) → Went program s.heap Quiet (answered granted)
GoesDeparting program s (picks n taken) = (i : ℕ) → suc i ≤ n → Went program s.heap Quiet (taken i)
