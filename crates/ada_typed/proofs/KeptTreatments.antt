-- Each step of a treatment keeps the running body and what waits for it, whatever the state, where no type overrides an operation (7.6, 7.6.1).

use Rattle.std.proofs.Common.{◌≡◌, ℕ, if◌then◌else◌, Bool, true, false, List, ◌∷◌, Option, Some, None, refl, ◌==◌}
use Rattle.std.specs.List.{slice_get}
use Rattle.ada_parts.specs.declared.tasks.Next.{Next as Follows}
use Rattle.ada_parts.specs.declared.tasks.Next.TheVariants.{Done, Pick, Perform}
use Rattle.ada_parts.specs.Part.{Part}
use Rattle.ada_parts.specs.Task.{Task, performed}
use Rattle.ada_program.specs.declared.program.TypeDefinition.{TypeDefinition}
use Rattle.ada_program.specs.Controlled.{shapes_of, operations_of, OverridesNothing, procedure_number}
use Rattle.ada_program.specs.ProgramForm.{BodyForm}
use Rattle.ada_meaning.specs.declared.state.Value.{Value}
use Rattle.ada_meaning.specs.declared.event.Cause.{Cause}
use Rattle.ada_meaning.specs.declared.event.Birth.{Birth}
use Rattle.ada_meaning.specs.declared.event.Halt.TheVariants.{Erroneous, Stuck}
use Rattle.ada_meaning.specs.declared.event.Why.TheVariants.{FinalizesTwice}
use Rattle.ada_meaning.specs.Event.{Finalized}
use Rattle.ada_meaning.specs.Frame.{Treatment}
use Rattle.ada_meaning.specs.Frame as frame
use Rattle.ada_meaning.specs.State.{counted}
use Rattle.ada_meaning.specs.Heap.{PartState, Cell, Found, on_null, on_gone, on_other, finds}
use Rattle.ada_meaning.specs.Step.{treating, picked_task, halts, moves, picks, at, direction_of, treated_on, beginning, born_next, begun_next, awaited_next, finalized_next, performed_next, treats_next}
use Rattle.ada_meaning.specs.Named.{State, named, treated, born_part, finalized_part, look, on_object}
use Rattle.ada_typed.proofs.Kept.{behind_treating, Keeps, Each, altered, stay_on, still}
use Rattle.ada_typed.proofs.Overriding.{begins_alone, ends_alone}

born_keeps : (v : Value) (by : Birth) (done : List Part) (of part : ℕ) (tasks : List Task) (o : Option PartState) (s : State) → Each (Keeps s) (born_next named v by done of part tasks o s)
born_keeps v by done of part tasks None s = tt
born_keeps v by done of part tasks (Some p) s =
    altered (stay_on (treated (born_part (counted s.born)) part) s.heap v (λ x. refl)) refl
    (behind_treating v (frame.begins by (record { of = of; number = part } ∷ done)) tasks s.control)

pub begun_keeps : (bodies : List BodyForm) (v : Value) (by : Birth) (done : List Part) (of part : ℕ) (tasks : List Task) (operation : Option ℕ) (o : Option PartState) (s : State) → operation ≡ None → Each (Keeps s) (begun_next named bodies v by done of part tasks operation o s)
begun_keeps bodies v by done of part tasks operation None s inherits = tt
begun_keeps bodies v by done of part tasks None (Some p) s inherits = born_keeps v by done of part tasks (Some p) s
begun_keeps bodies v by done of part tasks (Some procedure) (Some p) s inherits = absurd (cc)

-- The body of an operation has ended.
pub awaited_keeps : (v : Value) (by : Birth) (done : List Part) (of part : ℕ) (tasks : List Task) (found : Found (Cell Value)) (s : State) → Each (Keeps s) (awaited_next named v by done of part tasks found s)
awaited_keeps v by done of part tasks on_null s = tt
awaited_keeps v by done of part tasks on_gone s = tt
awaited_keeps v by done of part tasks on_other s = tt
awaited_keeps v by done of part tasks (finds cell) s = born_keeps v by done of part tasks (slice_get cell.parts part) s

ended_keeps : (alive : Bool) (v : Value) (cause : Cause) (of part : ℕ) (tasks : List Task) (p : PartState) (s : State) → Each (Keeps s) (if alive then moves (Finalized v part p.turn of p.number cause) (at (treating v (frame.ends cause) tasks s.control) (record s { heap = on_object (treated finalized_part part) s.heap v })) else halts (Erroneous FinalizesTwice))
ended_keeps true v cause of part tasks p s = altered (stay_on (treated finalized_part part) s.heap v (λ x. refl)) refl (behind_treating v (frame.ends cause) tasks s.control)
ended_keeps false v cause of part tasks p s = tt

pub finalized_keeps : (bodies : List BodyForm) (v : Value) (cause : Cause) (of part : ℕ) (tasks : List Task) (operation : Option ℕ) (o : Option PartState) (s : State) → operation ≡ None → Each (Keeps s) (finalized_next named bodies v cause of part tasks operation o s)
finalized_keeps bodies v cause of part tasks operation None s inherits = tt
finalized_keeps bodies v cause of part tasks None (Some p) s inherits = ended_keeps p.alive v cause of part tasks p s
finalized_keeps bodies v cause of part tasks (Some procedure) (Some p) s inherits = absurd (cc)

pub picked_keeps : (types : List TypeDefinition) (none : Bool) (v : Value) (treatment : Treatment) (tasks : List Task) (count : ℕ) (s : State) → Each (Keeps s) (if none then halts Stuck else picks count (λ i. treated_on named v treatment (picked_task (shapes_of types) (direction_of treatment) tasks i) s))
picked_keeps types true v treatment tasks count s = tt
picked_keeps types false v treatment tasks count s = λ i lt. still refl refl (behind_treating v treatment (picked_task (shapes_of types) (direction_of treatment) tasks i) s.control)

module _ (types : List TypeDefinition) (inherits : OverridesNothing types) (bodies : List BodyForm) where
  performed_keeps : (v : Value) (treatment : Treatment) (of part : ℕ) (tasks : List Task) (found : Found (Cell Value)) (s : State) → Each (Keeps s) (performed_next named types bodies v treatment of part tasks found s)
  performed_keeps v treatment of part tasks on_null s = tt
  performed_keeps v treatment of part tasks on_gone s = tt
  performed_keeps v treatment of part tasks on_other s = tt
  performed_keeps v (frame.begins by done) of part tasks (finds cell) s =
      begun_keeps bodies v by done of part tasks (beginning by (operations_of types of)) (slice_get cell.parts part) s (begins_alone types inherits by of)
  performed_keeps v (frame.ends cause) of part tasks (finds cell) s =
      finalized_keeps bodies v cause of part tasks (procedure_number (operations_of types of).finalize) (slice_get cell.parts part) s (ends_alone types inherits of)

  pub treats_keeps : (v : Value) (treatment : Treatment) (tasks : List Task) (next : Follows) (s : State) → Each (Keeps s) (treats_next named types bodies v treatment tasks next s)
  treats_keeps v treatment tasks Done s = still refl refl refl
  treats_keeps v treatment tasks (Pick count) s = picked_keeps types (count == 0) v treatment tasks count s
  treats_keeps v treatment tasks (Perform of part) s = performed_keeps v treatment of part (performed tasks) (look s.heap v) s
