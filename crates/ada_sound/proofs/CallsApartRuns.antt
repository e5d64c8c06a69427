-- What is called in a run is what the text of the program calls: no procedure that tracks, where no body calls one (6.4).

use Rattle.std.proofs.Common.{◌≡◌, ℕ, ℤ, Bool, true, false, List, ◌∷◌, subst}
use Rattle.std.specs.List.{list_all}
use Rattle.ada_program.specs.declared.program.Program.{Program}
use Rattle.ada_program.specs.Form.{ActualForm, RightForm, stmt_forms, handler_forms, declaration_forms}
use Rattle.ada_program.specs.ProgramForm.{TypeForm, BodyForm, main_body, body_forms, program_form}
use Rattle.ada_meaning.specs.declared.state.Value.{Value}
use Rattle.ada_meaning.specs.Frame.{Frame}
use Rattle.ada_meaning.specs.Frame as frame
use Rattle.ada_meaning.specs.Named.{State, next}
use Rattle.ada_meaning.specs.Run.{Event, Choice, Step, Run, here, there, first_state}
use Rattle.ada_quiet.specs.Apart.{is_bare_right, body_calls_apart}
use Rattle.ada_sound.proofs.CallsApart.{CallApart, elaborates_apart}
use Rattle.ada_sound.proofs.CallsApartSteps.{calls_stay_apart}
use Rattle.ada_idle.proofs.Coming.{led_next}

module _ (forms : List TypeForm) (tracks : ℕ → Bool) where
  -- A call that is next is of no procedure that tracks.
  pub no_tracker_called : (s : State) (number : ℕ) (b : BodyForm) (actuals : List ActualForm) (k : List (Frame Value))
      → s.control ≡ frame.Calls number b actuals ∷ k → CallApart forms tracks s.control → tracks number ≡ false
  no_tracker_called s number b actuals k first apart = (subst (CallApart forms tracks) first apart).0.0

  -- What is evaluated next, as what is assigned is, makes no object with controlled parts from the items of an allocator, and copies no record with some in
  -- one (4.8).
  pub no_record_allocated : (s : State) (right : RightForm) (k : List (Frame Value)) → s.control ≡ frame.Evaluates right ∷ k → CallApart forms tracks s.control
      → is_bare_right forms right ≡ true
  no_record_allocated s right k first apart = (subst (CallApart forms tracks) first apart).0

  module _ (program : Program) (each : list_all (body_calls_apart forms tracks) (body_forms program) ≡ true) where
    -- A step of the program keeps that.
    pub step_apart : (s after : State) (choice : Choice) (e : Event) → CallApart forms tracks s.control → Step program s choice e after
        → CallApart forms tracks after.control
    step_apart s after choice e apart step =
        led_next (λ (coming : State). CallApart forms tracks coming.control) (next program.types.items (body_forms program) s) choice e after
        (calls_stay_apart program.types.items (body_forms program) forms tracks each s apart) step

    -- So do some steps.
    pub run_apart : (s last : State) (events : List Event) → CallApart forms tracks s.control → Run program s events last → CallApart forms tracks last.control
    run_apart s last events apart here = apart
    run_apart s last (e ∷ events) apart (there choice mid step rest) = run_apart mid last events (step_apart s mid choice e apart step) rest

    module _ (main : body_calls_apart forms tracks (main_body (program_form program)) ≡ true) where
      -- So it is in the first state.
      pub first_apart : (input : List ℤ) → CallApart forms tracks (first_state program input).control
      first_apart input = (elaborates_apart forms tracks (declaration_forms program) (stmt_forms program) (handler_forms program) main, tt)

      -- So it is in each state of a run.
      pub calls_apart_in_runs : (input : List ℤ) (events : List Event) (last : State) → Run program (first_state program input) events last
          → CallApart forms tracks last.control
      calls_apart_in_runs input events last run = run_apart (first_state program input) last events (first_apart input) run

      -- What tracks is never called.
      pub tracker_never_called : (input : List ℤ) (events : List Event) (last : State) → Run program (first_state program input) events last
          → (number : ℕ) (b : BodyForm) (actuals : List ActualForm) (k : List (Frame Value)) → last.control ≡ frame.Calls number b actuals ∷ k
          → tracks number ≡ false
      tracker_never_called input events last run number b actuals k first =
          no_tracker_called last number b actuals k first (calls_apart_in_runs input events last run)
