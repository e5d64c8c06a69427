-- Each state that a run comes to has what steps rest on: finalization leaves it so (7.6, 7.6.1).

use Rattle.ada_quiet.specs.Frugal.{is_inert, thrift_of}
use Rattle.std.proofs.Common.{◌≡◌, ℕ, Bool, true, false, List, ◌∷◌, refl}
use Rattle.ada_program.specs.declared.program.Program.{Program}
use Rattle.ada_program.specs.ProgramForm.{program_form}
use Rattle.ada_meaning.specs.Named.{State}
use Rattle.ada_meaning.specs.declared.event.Cause.TheVariants.{Assigning}
use Rattle.ada_meaning.specs.declared.state.Id.{Id}
use Rattle.ada_meaning.specs.declared.state.Mode.TheVariants.{Running}
use Rattle.ada_meaning.specs.declared.state.Place.{Place}
use Rattle.ada_meaning.specs.declared.state.Value.{Value}
use Rattle.ada_meaning.specs.declared.state.Value.TheVariants.{Names, Null, Part}
use Rattle.ada_meaning.specs.Frame.{Assigns, Copies, Frame, Treats, ends}
use Rattle.ada_meaning.specs.Step.{first_or, older, operands}
use Rattle.ada_assigned.specs.Law.{is_of_operation}
use Rattle.ada_finalized.specs.Law.{NoOperationRunsOn}
use Rattle.ada_assigned.proofs.Runs.{assignments_stand, beside_run_alone, called_run_alone}
use Rattle.ada_finalized.proofs.Standing as standing
use Rattle.ada_finalized.proofs.Twice as twice
use Rattle.ada_sound.proofs.AssignsInside.{called_beside, frugally_called, operations_inside}
use Rattle.ada_sound.proofs.Treating.{assigned_in_use, treated_in_use}
use Rattle.ada_sound.proofs.Finalization.{finalizes_in, parts_alive}
use Rattle.ada_sound.proofs.Grounds.{Grounds}
use Rattle.ada_sound.proofs.Starts.{Sound}
use Rattle.ada_sound.proofs.Stored.{none_departed}
use Rattle.ada_sound.proofs.WordsOut.{words_out}

-- Where a body assigns to a record, no operation runs of the object in which that lies, unless it is the body of an operation itself, and none is called for it.
run_alone :
    (program : Program) (s : State) → Sound program s → s.mode ≡ Running → (t : ℕ) (k : List (Frame Value)) → s.control ≡ Assigns t ∷ k → (own : Bool) → is_of_operation k ≡ own
    → (is_of_operation k ≡ true → is_inert (thrift_of (program_form program)) t ≡ false) → (o : Id) (place : Place)
    → first_or Null (older (operands s)) ≡ Part o place → NoOperationRunsOn (Names o) k
run_alone program s sound runs t k is true own none =
    beside_run_alone program sound.well (λ u. is_inert (thrift_of (program_form program)) u) (frugally_called (program_form program))
    (operations_inside (program_form program) (assigned_in_use program s sound.in_use sound.idle t k is)) sound.reached.0 sound.reached.1 s sound.reached.2 runs t k is own (none own)
run_alone program s sound runs t k is false called none =
    called_run_alone program sound.well (λ u. is_inert (thrift_of (program_form program)) u) (frugally_called (program_form program))
    (operations_inside (program_form program) (assigned_in_use program s sound.in_use sound.idle t k is)) (called_beside (program_form program))
    sound.reached.0 sound.reached.1 s sound.reached.2 runs t k is called

-- What steps rest on, in a state of a run.
pub grounds : (program : Program) (s : State) → Sound program s → Grounds program s
grounds program s sound = record {
  well = sound.well;
  in_use = sound.in_use;
  frees_own = sound.frees_own;
  spares_own = sound.spares_own;
  spares_adjusted = sound.spares_adjusted;
  lets_nothing_out = sound.lets_nothing_out;
  obeys = sound.obeys;
  idle = sound.idle;
  copies = sound.copies;
  apart = sound.apart;
  typed = sound.typed;
  nested = sound.nested;
  finalizes = λ calm. finalizes_in program sound.well s sound.reached sound.typed calm;
  unborn = λ o none. twice.operated_exist program sound.reached.0 sound.reached.1 s sound.reached.2 o none;
  unrun = λ o x found listed none. standing.none_runs_on_listed program sound.reached.0 sound.reached.1 s sound.reached.2 o x found listed none;
  stands = λ runs o x found listed none may. parts_alive program sound.well s sound.reached o x found (standing.listed_stand program sound.reached.0 sound.reached.1 s sound.reached.2 o x found listed none);
  departed = λ o x gone. none_departed s.heap (words_out program s sound.reached) o x gone;
  exist = λ v treatment tasks k is alone. twice.values_exist program sound.reached.0 sound.reached.1 s sound.reached.2 v treatment tasks k is alone;
  assigned = λ v number tasks first t k is alone.
      assignments_stand program sound.well (λ t. is_inert (thrift_of (program_form program)) t) (frugally_called (program_form program)) (operations_inside (program_form program) (treated_in_use program s sound.in_use sound.idle (Treats v (ends (Assigning number)) tasks ∷ Copies first t ∷ k) is tt))
      sound.reached.0 sound.reached.1 s sound.reached.2 v number tasks first t k is alone;
  beside = λ runs t k is. run_alone program s sound runs t k is (is_of_operation k) refl;
  untreated_end = λ still v w cause tasks k is. standing.untreated_end program sound.reached.0 sound.reached.1 s still sound.reached.2 v w cause tasks k is;
  untreated_start = λ still v by done tasks k is. standing.untreated_start program sound.reached.0 sound.reached.1 s still sound.reached.2 v by done tasks k is;
  adjusts_alone = λ still v cause tasks first t k is. standing.adjusts_alone program sound.reached.0 sound.reached.1 s still sound.reached.2 v cause tasks first t k is;
}
