-- Whole runs: all operations nest, and each value that is finalized exists.

use Rattle.std.proofs.Common.{◌≡◌, ℕ, ℤ, Bool, true, List, [], ◌∷◌, ◌++◌, refl, subst}
use Rattle.std.specs.List.{slice_get}
use Rattle.ada_program.specs.declared.program.Program.{Program}
use Rattle.ada_program.specs.Controlled.{shapes_of}
use Rattle.ada_program.specs.ProgramForm.{program_form, body_forms}
use Rattle.ada_program.specs.WellFormed.{IsWellFormed}
use Rattle.ada_parts.specs.Task.{Task}
use Rattle.ada_meaning.specs.declared.state.Value.{Value}
use Rattle.ada_meaning.specs.Frame.{Frame, Treatment, begins, ends}
use Rattle.ada_meaning.specs.Frame as frame
use Rattle.ada_meaning.specs.Named.{State, next}
use Rattle.ada_meaning.specs.Run.{Event, Choice, Step, Run, here, there, first_state, run_more}
use Rattle.ada_finalized.specs.Law.{TreatsInside}
use Rattle.ada_finalized.proofs.Leading.{led}
use Rattle.ada_finalized.proofs.Twice.{inner_values_exist}
use Rattle.ada_assigned.specs.Law.{operations_assign_inside, CalledAssignBeside}
use Rattle.ada_assigned.proofs.Keeping.{Told}
use Rattle.ada_assigned.proofs.Runs.{last_stands}
use Rattle.ada_assigned.proofs.Texts.{count_formals}
use Rattle.ada_inside.specs.Law.{NestInside, IsLeftApart, LeavesApart, StepsNestInside, OperationsNestInside, NestedValuesExist}
use Rattle.ada_inside.proofs.Steps.{next_nests}

module _ (program : Program) (well : IsWellFormed (program_form program)) (within called : ℕ → Bool) (inside : operations_assign_inside (program_form program) within called ≡ true)
    (beside : CalledAssignBeside (program_form program) called) (input : List ℤ) where
  -- What is told of the program.
  abbrev told : Told
  told = record { within = within; called = called; formals = λ procedure. count_formals (slice_get (body_forms program) procedure); watched = true }

  -- A step of a run goes on so, if what is left then stands apart.
  pub step_nests :
      (events : List Event) (s after : State) (choice : Choice) (e : Event) → Run program (first_state program input) events s → NestInside (shapes_of program.types.items) s.control
      → Step program s choice e after → IsLeftApart after → NestInside (shapes_of program.types.items) after.control
  step_nests events s after choice e run h step =
      led (λ shown u. IsLeftApart u → NestInside (shapes_of program.types.items) u.control) (next program.types.items (body_forms program) s) choice e after
      (next_nests program input events s run told refl (last_stands program well told inside (λ watched. beside) (λ procedure. refl) input events s run) h) step

  module _ (apart : LeavesApart program) where
    run_nests :
        (past events : List Event) (s last : State) → Run program (first_state program input) past s → NestInside (shapes_of program.types.items) s.control → Run program s events last
        → NestInside (shapes_of program.types.items) last.control
    run_nests past _ s last run h here = h
    run_nests past (e ∷ events) s last run h (there choice mid step rest) =
        let more = run_more e choice mid run step in
        run_nests (past ++ e ∷ []) events mid last more (step_nests past s mid choice e run h step (apart input (past ++ e ∷ []) mid more)) rest

    pub state_nests : (events : List Event) (last : State) → Run program (first_state program input) events last → NestInside (shapes_of program.types.items) last.control
    state_nests events last run = run_nests [] events (first_state program input) last here tt run

pub steps_nest : StepsNestInside
steps_nest program well within called inside beside input events before after choice event run h step apart =
    step_nests program well within called inside beside input events before after choice event run h step apart

pub operations_nest : OperationsNestInside
operations_nest program well within called inside beside apart input events last run = state_nests program well within called inside beside input apart events last run

-- So the treatment that comes next is inside.
pub treated_inside : (program : Program) (v : Value) (treatment : Treatment) (tasks : List Task) (k : List (Frame Value))
    → NestInside (shapes_of program.types.items) (frame.Treats v treatment tasks ∷ k) → TreatsInside (shapes_of program.types.items) v tasks k
treated_inside program v (begins by done) tasks k h = h.0.0
treated_inside program v (ends cause) tasks k h = h.0

pub values_exist : NestedValuesExist
values_exist program well within called inside beside apart input events last run v treatment tasks k is halted =
    inner_values_exist program input events last run v treatment tasks k is
    (treated_inside program v treatment tasks k
    (subst (NestInside (shapes_of program.types.items)) is (operations_nest program well within called inside beside apart input events last run))) halted
