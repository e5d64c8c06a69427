-- Each state of a run has open what its record objects need.

use Rattle.std.proofs.Common.{ℤ, List, ◌∷◌, true}
use Rattle.ada_program.specs.declared.program.Program.{Program}
use Rattle.ada_program.specs.ProgramForm.{ProgramForm, program_form}
use Rattle.ada_program.specs.WellFormed.{IsWellFormed}
use Rattle.ada_program.specs.Nested.{callees_of, CollectionsNest}
use Rattle.ada_meaning.specs.Named.{State, next}
use Rattle.ada_meaning.specs.Run.{Event, Choice, Step, Run, here, there, first_state}
use Rattle.ada_order.proofs.Controls.{led}
use Rattle.ada_scopes.specs.Scopes.{OperationsNestAnywhere}
use Rattle.ada_scopes.proofs.Operations.{operations_here, anywhere_open}
use Rattle.ada_scopes.proofs.Treatments.{TreatsFirst}
use Rattle.ada_scopes.proofs.Runs.{ScopedSo, first_so, step_so}
use Rattle.ada_outlived.proofs.Control.{Keeps}
use Rattle.ada_outlived.proofs.Steps.{next_good}
use Rattle.ada_outlived.proofs.Ready.{is_ready}

-- What each state of a run keeps.
pub record Outlives (p : ProgramForm) (s : State) : Type 0 where
  pub scoped : ScopedSo true p s
  pub keeps : Keeps p.types (callees_of p) s

-- The first state owns nothing, and no body of a Finalize runs.
pub first_outlives : (program : Program) → IsWellFormed (program_form program) → CollectionsNest (program_form program) → (input : List ℤ) → Outlives (program_form program) (first_state program input)
first_outlives program well nest input = record {
  scoped = first_so true program well nest input;
  keeps = ((tt, tt), ((λ within. absurd (cc within)), tt));
}

-- A step keeps that, if operations nest anywhere where a treatment is what is done next.
pub step_outlives : (program : Program) (s after : State) (choice : Choice) (e : Event) → (TreatsFirst s.control → OperationsNestAnywhere (program_form program)) → Outlives (program_form program) s → Step program s choice e after → Outlives (program_form program) after
step_outlives program s after choice e operations h step =
    let p = program_form program in
    let types = program.types.items in
    record {
      scoped = step_so true program s after choice e (λ first. anywhere_open (program_form program) (operations first)) h.scoped step;
      keeps = (led (λ told event state. Keeps p.types (callees_of p) state) (next types p.bodies s) choice e after
          (next_good p.types (callees_of p) p.bodies h.scoped.bodies types s (λ first of. operations_here (callees_of p) types of (operations first))
          (λ f rest runs top. is_ready p s h.scoped h.keeps.1 f rest top) h.keeps) step).1;
    }

run_outlives : (program : Program) (s last : State) (events : List Event) → OperationsNestAnywhere (program_form program) → Outlives (program_form program) s → Run program s events last → Outlives (program_form program) last
run_outlives program s last events operations h here = h
run_outlives program s last (e ∷ events) operations h (there choice mid step rest) =
    run_outlives program mid last events operations (step_outlives program s mid choice e (λ first. operations) h step) rest

pub state_outlives : (program : Program) → IsWellFormed (program_form program) → CollectionsNest (program_form program) → OperationsNestAnywhere (program_form program) → (input : List ℤ) (events : List Event) (last : State) → Run program (first_state program input) events last → Outlives (program_form program) last
state_outlives program well nest operations input events last run =
    run_outlives program (first_state program input) last events operations (first_outlives program well nest input) run
