-- In each state of a run the collections of each master are the first ones of a declarative part of the text.

use Rattle.std.proofs.Common.{ℕ, ℤ, List, ◌∷◌}
use Rattle.ada_program.specs.declared.program.Program.{Program}
use Rattle.ada_program.specs.ProgramForm.{main_body, body_forms, program_form}
use Rattle.ada_meaning.specs.Named.{State, next}
use Rattle.ada_meaning.specs.Run.{Event, Choice, Step, Run, here, there, first_state}
use Rattle.ada_operations.specs.Created.{body_collections}
use Rattle.ada_order.proofs.Controls.{led}
use Rattle.ada_order.proofs.Orders.{Kept, kept_first, step_keeps}
use Rattle.ada_created.proofs.Control.{Each, Stands, AllBegun, all_begun}
use Rattle.ada_created.proofs.Treatments.{BodiesFit}
use Rattle.ada_created.proofs.Steps.{next_orderly}

module _ (P : List ℕ → Type 0) (program : Program) where
  -- What each state of a run keeps.
  pub record Keeps (s : State) : Type 0 where
    pub kept : Kept program.types.items s
    pub stands : Stands P s

module _ (P : List ℕ → Type 0) (program : Program) (bodies : BodiesFit P (body_forms program)) where
  -- The main part is entered first (3.11).
  first_keeps : Each P (body_collections (main_body (program_form program))) → (input : List ℤ) → Keeps P program (first_state program input)
  first_keeps main input = record { kept = kept_first program input; stands = (main, tt) }

  -- A step keeps that.
  step_keeps_on : (s after : State) (choice : Choice) (e : Event) → Keeps P program s → Step program s choice e after → Keeps P program after
  step_keeps_on s after choice e h step = record {
    kept = step_keeps program s choice e after h.kept step;
    stands = (led (λ told event state. Stands P state) (next program.types.items (body_forms program) s) choice e after
        (next_orderly P program.types.items (body_forms program) bodies s h.kept.stands h.stands) step).1;
  }

  -- So do some steps.
  run_keeps : (s last : State) (events : List Event) → Keeps P program s → Run program s events last → Keeps P program last
  run_keeps s last events h here = h
  run_keeps s last (e ∷ events) h (there choice mid step rest) = run_keeps mid last events (step_keeps_on s mid choice e h step) rest

  -- So it is with each master.
  pub begun_in_runs : Each P (body_collections (main_body (program_form program))) → (input : List ℤ) (events : List Event) (last : State)
      → Run program (first_state program input) events last → AllBegun P last.masters
  begun_in_runs main input events last run =
      all_begun P last.control last.masters (run_keeps (first_state program input) last events (first_keeps main input) run).stands
