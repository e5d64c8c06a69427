-- What each step rests on: what is known of the program, typing, and what finalization leaves of objects. It holds in each state that a run comes to, and in one
-- that stands for such a state.

use Rattle.ada_quiet.specs.Frugal.{is_inert, thrift_of}
use Rattle.std.proofs.Common.{◌≡◌, ℕ, Bool, true, false, List, [], ◌∷◌, ◌&&◌, refl, subst}
use Rattle.std.specs.Prelude.{ℤ, Some}
use Rattle.ada_deeds.specs.Implicit.{implicit_of}
use Rattle.ada_effects.specs.Effects.{effects_of, body_frees}
use Rattle.ada_flow.specs.Flow.{ObeysRules}
use Rattle.ada_program.specs.declared.program.Program.{Program}
use Rattle.ada_program.specs.Freed.{FreesItsOwn}
use Rattle.ada_program.specs.ProgramForm.{TypeForm, program_form, body_forms, main_body, seen_in}
use Rattle.ada_program.specs.WellFormed.{IsWellFormed, is_access}
use Rattle.ada_parts.specs.Part as parts
use Rattle.ada_parts.specs.Task.{Task}
use Rattle.ada_meaning.specs.declared.event.Birth.{Birth}
use Rattle.ada_meaning.specs.declared.event.Cause.{Cause}
use Rattle.ada_meaning.specs.declared.event.Cause.TheVariants.{Assigning, Leaving}
use Rattle.ada_meaning.specs.declared.event.Halt.TheVariants.{Erroneous}
use Rattle.ada_meaning.specs.declared.event.Why.TheVariants.{FinalizesTwice}
use Rattle.ada_meaning.specs.declared.state.Id.{Id}
use Rattle.ada_meaning.specs.declared.state.Value.{Value}
use Rattle.ada_meaning.specs.declared.state.Mode.TheVariants.{Running}
use Rattle.ada_meaning.specs.declared.state.Place.{Place}
use Rattle.ada_meaning.specs.declared.state.Value.TheVariants.{Names, Null, Part}
use Rattle.ada_meaning.specs.Step.{first_or, older, operands}
use Rattle.ada_meaning.specs.Frame as frame
use Rattle.ada_meaning.specs.Frame.{Treatment, begins, ends}
use Rattle.ada_meaning.specs.Named.{Object, State, object_at, all_alive}
use Rattle.ada_meaning.specs.Run.{Event, Run, Halts, first_state}
use Rattle.ada_assigned.specs.Law.{RunsAlone, is_of_operation}
use Rattle.ada_finalized.proofs.Standing.{AdjustsAlone}
use Rattle.ada_finalized.specs.Law.{NoOperationRuns, NoOperationRunsOn, NothingBegins}
use Rattle.ada_meaning.specs.Finalization.{NothingTreated}
use Rattle.ada_idle.proofs.Idle.{ControlIsIdle, IsIdle}
use Rattle.ada_idle.proofs.Unadjusted.{AdjustsNone}
use Rattle.ada_idle.specs.Law.{adjusts_copy}
use Rattle.ada_quiet.specs.Apart.{is_tracker, operations_stand_apart}
use Rattle.ada_quiet.specs.Idle.{copies_parts, makes_parts}
use Rattle.ada_quiet.specs.InUse.{operations_are_in_use}
use Rattle.ada_scopes.proofs.Runs.{Scoped}
use Rattle.ada_typed.proofs.Control as typed
use Rattle.ada_typed.proofs.Kept.{behind_call}
use Rattle.ada_sound.specs.Agreement.{running_procedure}
use Rattle.ada_sound.specs.Always.{LetsNothingOut, SparesAdjusted, SparesOwn}
use Rattle.ada_sound.proofs.Callers.{AreCalls, Suspension, known_in, Stands}
use Rattle.ada_sound.proofs.CallsApart.{CallApart}
use Rattle.ada_sound.proofs.FrugalFrees.{Unborn}
use Rattle.ada_sound.proofs.Fits.{Outsiders}
use Rattle.ada_sound.proofs.Invariant.{Control, Ready}
use Rattle.ada_sound.proofs.Operating.{IsCalm}
use Rattle.ada_sound.proofs.Standing.{FinalizesIn, any_type}
use Rattle.ada_sound.proofs.Stored.{HasDeparted}
use Rattle.ada_sound.proofs.Trackers.{TracksSafely}

-- A run of the program comes to this state.
abbrev pub IsReached : Program → State → Type 0
IsReached program s = (input : List ℤ) × (events : List Event) × Run program (first_state program input) events s

-- No operation runs, or its body has just come to its end: the invariant holds, for the body that runs and those that have called it, in which
-- no object is under way.
pub record Ordinary (program : Program) (s : State) : Type 0 where
  pub suspensions : List Suspension
  pub ready : Ready (known_in program (running_procedure s) suspensions) s
  pub stands : Stands program suspensions s
  pub calm : IsCalm (behind_call s.control)
  pub settled : AreCalls suspensions

-- A program obeys the rules, and nothing tracks components, or they may be tracked.
abbrev pub Obeys : Program → Type 0
Obeys program = TracksSafely (program_form program) × ObeysRules program

-- What the running body may free, of access types (13.11.2).
abbrev pub may_free : Program → State → ℕ → Bool
may_free program s t =
    let seen = seen_in (running_procedure s) (program_form program) in
    is_access (program_form program).types t && body_frees seen.types (effects_of (implicit_of (program_form program)) seen) (main_body seen) t

-- What is left to do begins in the midst of what ends a master's objects (7.6.1).
abbrev pub is_ending : Control → Bool
is_ending [] = false
is_ending (frame.Leaves mode ∷ k) = true
is_ending (frame.Treats v (ends (Leaving master item)) tasks ∷ k) = true
is_ending (frame.Confines ∷ k) = true
is_ending (frame.Ends v ∷ k) = true
is_ending (frame.GivesBack v cause pool ∷ k) = true
is_ending (f ∷ k) = false

-- An object has gone with its collection (7.6.1), though it is there: no operation of it runs, it is not treated next, and an operation runs of another object,
-- unless a master's objects are being ended; the running body frees none of its type then.
pub record IsLeftAlone (program : Program) (s : State) (o : Id) (x : Object) : Type 0 where
  pub unrun : NoOperationRunsOn (Names o) s.control
  pub untreated : (treatment : Treatment) (tasks : List Task) (k : Control) → s.control ≡ frame.Treats (Names o) treatment tasks ∷ k → ⊥
  pub inside : is_ending s.control ≡ false → IsCalm (behind_call s.control) → ⊥
  pub unfreed : (IsCalm (behind_call s.control) → ⊥) → may_free program s x.cell.access ≡ false

pub record Grounds (program : Program) (s : State) : Type 0 where
  -- the program: as in each state
  pub well : IsWellFormed (program_form program)
  pub in_use : operations_are_in_use (program_form program) ≡ true
  pub frees_own : FreesItsOwn (program_form program)
  pub spares_own : SparesOwn program
  pub spares_adjusted : SparesAdjusted (program_form program)
  pub lets_nothing_out : LetsNothingOut (program_form program)
  pub obeys : Obeys program
  -- what is left to do, and values
  pub idle : makes_parts (program_form program) ≡ false → IsIdle (program_form program).types s
  pub copies : copies_parts (program_form program) ≡ false → AdjustsNone (program_form program).types s.control
  pub apart : operations_stand_apart (program_form program) ≡ true → CallApart (program_form program).types (is_tracker (program_form program)) s.control
  pub typed : typed.Typed (program_form program) s
  pub nested : Scoped (program_form program) s
  -- where no operation runs, each object that may be freed stands, and no treatment finalizes a value that does not exist
  pub finalizes : IsCalm (behind_call s.control) → (forms : List TypeForm) (outer : Outsiders) → FinalizesIn any_type forms outer program.types.items (body_forms program) s.mode s.control s
  -- no operation runs of an object that does not exist; and none runs of an object that is in its collection, where nothing of it begins; and it stands, if the running body may free it, and is one of an operation,
  -- or is called by one
  pub unborn : Unborn s.heap s.control
  pub unrun : (o : Id) (x : Object) → object_at s.heap o ≡ Some x → x.listed ≡ true → NothingBegins (Names o) s.control → NoOperationRunsOn (Names o) s.control
  pub stands : (IsCalm (behind_call s.control) → ⊥) → (o : Id) (x : Object) → object_at s.heap o ≡ Some x → x.listed ≡ true → NothingBegins (Names o) s.control → may_free program s x.cell.access ≡ true
      → all_alive x.cell.parts ≡ true
  -- what has gone with its collection is left alone
  pub departed : (o : Id) (x : Object) → HasDeparted s.heap o x → IsLeftAlone program s o x
  -- what is treated next has the values that are to be finalized, where no operation of it runs
  pub exist : (v : Value) (treatment : Treatment) (tasks : List Task) (k : Control) → s.control ≡ frame.Treats v treatment tasks ∷ k → NoOperationRunsOn v k
      → Halts program s (Erroneous FinalizesTwice) → ⊥
  -- so has a record to which the body of an operation assigns, behind which no other one of its object runs
  pub assigned : (v : Value) (number : ℕ) (tasks : List Task) (first t : ℕ) (k : Control) → s.control ≡ frame.Treats v (ends (Assigning number)) tasks ∷ frame.Copies first t ∷ k
      → RunsAlone v k → Halts program s (Erroneous FinalizesTwice) → ⊥
  -- and where a body assigns to one, none runs of the object in which that lies, unless it is that of an operation itself, and none is called for the record
  pub beside : s.mode ≡ Running → (t : ℕ) (k : Control) → s.control ≡ frame.Assigns t ∷ k
      → (is_of_operation k ≡ true → is_inert (thrift_of (program_form program)) t ≡ false) → (o : Id) (place : Place)
      → first_or Null (older (operands s)) ≡ Part o place → NoOperationRunsOn (Names o) k
  -- where no operation runs, nothing is treated behind what is treated, but a record that is assigned to
  pub untreated_end : NoOperationRuns s.control → (v w : Value) (cause : Cause) (tasks : List Task) (k : Control)
      → s.control ≡ frame.Treats v (ends cause) tasks ∷ frame.Ends w ∷ k → NothingTreated k
  pub untreated_start : NoOperationRuns s.control → (v : Value) (by : Birth) (done : List parts.Part) (tasks : List Task) (k : Control)
      → s.control ≡ frame.Treats v (begins by done) tasks ∷ k → NothingTreated k
  pub adjusts_alone : NoOperationRuns s.control → (v : Value) (cause : Cause) (tasks : List Task) (first t : ℕ) (k : Control)
      → s.control ≡ frame.Treats v (ends cause) tasks ∷ frame.Copies first t ∷ k → AdjustsAlone v k

-- Where a copy is adjusted, something in the text copies a record with controlled parts.
pub treats_copied : (program : Program) (s : State) → Grounds program s → (v : Value) (treatment : Treatment) (tasks : List Task) (k : Control) → s.control ≡ frame.Treats v treatment tasks ∷ k
    → adjusts_copy treatment ≡ true → copies_parts (program_form program) ≡ true
treats_copied program s grounds v treatment tasks k is copy = by (copies_parts (program_form program)) refl
  where
    by : (copies : Bool) → copies_parts (program_form program) ≡ copies → copies_parts (program_form program) ≡ true
    by true copies = copies
    by false none =
        let never = (subst (λ (all : Control). AdjustsNone (program_form program).types all) is (grounds.copies none)).0 in
        absurd (cc (copy, never))

-- Where something is treated, something in the text creates an object with controlled parts, or assigns a record with some.
pub treats_made : (program : Program) (s : State) → Grounds program s → (v : Value) (treatment : Treatment) (tasks : List Task) (k : Control) → s.control ≡ frame.Treats v treatment tasks ∷ k
    → makes_parts (program_form program) ≡ true
treats_made program s grounds v treatment tasks k is = by (makes_parts (program_form program)) refl
  where
    by : (made : Bool) → makes_parts (program_form program) ≡ made → makes_parts (program_form program) ≡ true
    by true made = made
    by false none = absurd ((subst (λ (all : Control). ControlIsIdle (program_form program).types all) is (grounds.idle none).control).0)
