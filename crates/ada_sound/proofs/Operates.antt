-- The body of an operation runs that touches Integers and Booleans alone (7.6): no other one is under way, or one that touches storage is, in which the object
-- is freed, allocated or undone.

use Rattle.ada_meaning.specs.declared.event.Cause.TheVariants.{Leaving, Freeing, Assigning, Undoing}
use Rattle.std.proofs.Common.{◌≡◌, ℕ, true, List, ◌∷◌, ◌++◌, ◌⊎◌}
use Rattle.std.specs.Prelude.{Some}
use Rattle.ada_program.specs.declared.program.Exception.{Exception}
use Rattle.ada_program.specs.declared.program.Program.{Program}
use Rattle.ada_program.specs.Handling.{is_same}
use Rattle.ada_program.specs.ProgramForm.{ProgramForm, main_body, program_form, seen_in}
use Rattle.ada_effects.specs.Effects.{Implicit, no_calls, body_raises}
use Rattle.ada_deeds.specs.Implicit.{implicit_of}
use Rattle.ada_meaning.specs.declared.state.Id.{Id}
use Rattle.ada_meaning.specs.declared.state.Value.{Value}
use Rattle.ada_meaning.specs.declared.state.Value.TheVariants.{Names}
use Rattle.ada_meaning.specs.Frame.{Treatment, begins, ends}
use Rattle.ada_meaning.specs.Named.{Object, State}
use Rattle.ada_meaning.specs.Run.{Event}
use Rattle.ada_meaning.specs.State.{Activation, Master}
use Rattle.ada_parts.specs.Task.{Task}
use Rattle.ada_quiet.specs.Quiet.{is_plain_body}
use Rattle.ada_typed.proofs.Kept.{behind_call}
use Rattle.ada_sound.specs.Callees.{IsCovered}
use Rattle.ada_sound.proofs.Alters.{Alters}
use Rattle.ada_sound.proofs.Bodies.{IsBody}
use Rattle.ada_sound.proofs.Callers.{AreCalls, Suspension, known_in, Stands}
use Rattle.ada_sound.proofs.FrugalControl.{IsInside, IsReplacing}
use Rattle.ada_sound.proofs.Invariant.{Control, Says, TreatsBy}
use Rattle.ada_sound.proofs.Operating.{Body, IsCalm, WaitsFor, behind_operation, lets_out}
use Rattle.ada_sound.proofs.Touching.{Within}

-- Where a record of an object is assigned to, what is copied is stored in it behind that (5.2).
abbrev pub CopiesInto : Treatment → Value → (after : Control) → Type 0
CopiesInto (begins by done) v k = Unit {0}
CopiesInto (ends (Leaving m item)) v k = Unit {0}
CopiesInto (ends (Freeing number)) v k = Unit {0}
CopiesInto (ends (Assigning number)) v k = IsReplacing v k
CopiesInto (ends (Undoing number)) v k = Unit {0}

-- What is around the body of such an operation, by what it is called for, where these activations wait: no operation runs, or one that touches storage is under
-- way, in which the object is freed, allocated or undone (13.11.2, 4.8, 7.6.1).
abbrev pub AroundTreated : (program : Program) → Treatment → (object : Id) → (after : Control) → List Suspension → State → Type 0
AroundTreated program treatment object after gs s =
    (IsCalm (behind_call s.control) × (AreCalls gs)) ⊎ (IsInside treatment × CopiesInto treatment (Names object) after × Within program gs s)

-- The object that an operation is called for is treated; and what waits for it goes on behind that, whatever the body does.
pub record Suspended (program : Program) (object : Id) (treatment : Treatment) (caller : Activation Value) (rest : List (Activation Value)) (behind : Control) (lower : List Master) (s : State) : Type 0 where
  pub suspensions : List Suspension
  pub after : Control
  pub of : ℕ
  pub tasks : List Task
  pub waits : WaitsFor (program_form program).types object of treatment tasks after behind
  pub treats : TreatsBy (known_in program caller.procedure suspensions) (Names object) treatment tasks after s.heap caller.places caller.operands lower
  pub stands : Stands program suspensions (behind_operation (caller ∷ rest) behind lower s)
  pub around : AroundTreated program treatment object after suspensions (behind_operation (caller ∷ rest) behind lower s)

-- The body of such an operation runs.
pub record Operates (program : Program) (s : State) : Type 0 where
  pub procedure : ℕ
  pub is_body : IsBody (program_form program) (Some procedure)
  pub plain : is_plain_body (program_form program).types is_body.0 ≡ true
  pub places : List Value
  pub operands : List Value
  pub caller : Activation Value
  pub rest : List (Activation Value)
  pub active : s.activations ≡ record { procedure = Some procedure; places = places; operands = operands } ∷ caller ∷ rest
  pub behind : Control
  pub upper : List Master
  pub lower : List Master
  pub masters : s.masters ≡ upper ++ lower
  pub object : Id
  pub access : ℕ
  pub body : Body (record { program = seen_in (Some procedure) (program_form program); object = object; access = access }) behind upper s.heap places operands s.mode s.control
  pub treatment : Treatment
  pub suspended : Suspended program object treatment caller rest behind lower s
  pub prepared : (e : Exception) → body_raises no_calls (main_body (seen_in (Some procedure) (program_form program))) (is_same e) ≡ true → lets_out (implicit_of (program_form program)) access treatment e ≡ true

-- The body of such an operation runs behind a step that gives nothing back; and what that does to objects.
pub record InOperation (program : Program) (before : List Object) (e : Event) (after : State) : Type 0 where
  pub operates : Operates program after
  pub alters : Alters before e after.heap
  pub says : (implicit : Implicit) (p : ProgramForm) → Says implicit p e before after
  pub covered : (number : ℕ) → IsCovered program number e
