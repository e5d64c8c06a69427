-- What is done as an object is treated, where something waits behind all that is left to do.

use Rattle.std.proofs.Common.{ℕ, Bool, true, false, List, ◌∷◌, ◌++◌, Option, Some, None, refl, ap, subst, sym}
use Rattle.std.specs.Prelude.{◌==◌, if◌then◌else◌}
use Rattle.std.specs.List.{slice_get}
use Rattle.ada_parts.specs.declared.tasks.Next.{Next as Follows}
use Rattle.ada_parts.specs.declared.tasks.Next.TheVariants.{Done, Pick, Perform}
use Rattle.ada_parts.specs.Part.{Part}
use Rattle.ada_parts.specs.Task.{Task, performed}
use Rattle.ada_program.specs.declared.program.TypeDefinition.{TypeDefinition}
use Rattle.ada_program.specs.Controlled.{operations_of, procedure_number, shapes_of}
use Rattle.ada_program.specs.ProgramForm.{BodyForm}
use Rattle.ada_meaning.specs.declared.event.Birth.{Birth}
use Rattle.ada_meaning.specs.declared.event.Cause.{Cause}
use Rattle.ada_meaning.specs.declared.event.Halt.TheVariants.{Stuck, Erroneous}
use Rattle.ada_meaning.specs.declared.event.Why.TheVariants.{FinalizesTwice}
use Rattle.ada_meaning.specs.Event.{Event, Born, Finalized, Quiet}
use Rattle.ada_meaning.specs.Frame.{Treatment, begins, ends, Frame}
use Rattle.ada_meaning.specs.Frame as frame
use Rattle.ada_meaning.specs.Heap.{PartState, Cell, Found, on_null, on_gone, on_other, finds, Ops}
use Rattle.ada_meaning.specs.State.{Activation, State, counted}
use Rattle.ada_meaning.specs.Step.{halts, picks, at, treating, treated_on, direction_of, picked_task, beginning, operation_next, part_reference, born_next, awaited_next, begun_next, ended_next, finalized_next, performed_next, treats_next}
use Rattle.ada_waiting.specs.Before.{Waiting, before, NextBefore}
use Rattle.ada_waiting.proofs.Forms.{topped, treating_before, Stays, treated_before}

module _ {V H : Type 0} (ops : Ops V H) (w : Waiting V) (types : List TypeDefinition) (bodies : List BodyForm) where
  -- The body of an operation begins (7.6, 6.4), before what is behind it.
  operation_stays : (procedure : ℕ) (found : Option BodyForm) (reference : V) (behind : List (Frame V)) (e : Event V) (a : Activation V) (suspended : List (Activation V)) (s : State V H)
      → NextBefore w (operation_next ops procedure found reference behind e (topped a suspended s)) (operation_next ops procedure found reference (behind ++ w.control) e (before w (topped a suspended s)))
  operation_stays procedure None reference behind e a suspended s = refl
  operation_stays procedure (Some b) reference behind e a suspended s = refl

  -- A part comes to have a value (7.6).
  born_stays : (v : V) (by : Birth) (done : List Part) (of part : ℕ) (tasks : List Task) (found : Option PartState) → Stays ops w (born_next ops v by done of part tasks found)
  born_stays v by done of part tasks None a suspended s = refl
  born_stays v by done of part tasks (Some p) a suspended s =
      treated_before ops w (Born v part p.turn of (counted s.born) by) v (begins by (record { of = of; number = part } ∷ done)) tasks
      (record (topped a suspended s) { born = counted s.born; heap = ops.bear s.heap v part (counted s.born) })

  -- So it does once the operation has ended that begins it.
  pub awaited_stays : (v : V) (by : Birth) (done : List Part) (of part : ℕ) (tasks : List Task) (found : Found (Cell V)) → Stays ops w (awaited_next ops v by done of part tasks found)
  awaited_stays v by done of part tasks on_null a suspended s = refl
  awaited_stays v by done of part tasks on_gone a suspended s = refl
  awaited_stays v by done of part tasks on_other a suspended s = refl
  awaited_stays v by done of part tasks (finds cell) a suspended s = born_stays v by done of part tasks (slice_get cell.parts part) a suspended s

  -- The operation that begins a part is called (7.6), or does nothing.
  begun_stays : (v : V) (by : Birth) (done : List Part) (of part : ℕ) (tasks : List Task) (operation : Option ℕ) (found : Option PartState) → Stays ops w (begun_next ops bodies v by done of part tasks operation found)
  begun_stays v by done of part tasks None None a suspended s = refl
  begun_stays v by done of part tasks (Some procedure) None a suspended s = refl
  begun_stays v by done of part tasks None (Some p) a suspended s = born_stays v by done of part tasks (Some p) a suspended s
  begun_stays v by done of part tasks (Some procedure) (Some p) a suspended s =
      operation_stays procedure (slice_get bodies procedure) (part_reference ops v part p) (frame.Awaits v by done of part tasks ∷ s.control) Quiet a suspended s

  -- Finalize of a part is called (7.6.1), or does nothing.
  ended_stays : (v : V) (part : ℕ) (p : PartState) (behind : List (Frame V)) (operation : Option ℕ) (e : Event V) (a : Activation V) (suspended : List (Activation V)) (s : State V H)
      → NextBefore w (ended_next ops bodies v part p behind operation e (topped a suspended s)) (ended_next ops bodies v part p (behind ++ w.control) operation e (before w (topped a suspended s)))
  ended_stays v part p behind None e a suspended s = refl
  ended_stays v part p behind (Some procedure) e a suspended s =
      operation_stays procedure (slice_get bodies procedure) (part_reference ops v part p) (frame.Confines ∷ behind) e a suspended s

  -- The value of a part is finalized, if there is one.
  part_ended : (alive : Bool) (v : V) (part : ℕ) (p : PartState) (cause : Cause) (tasks : List Task) (operation : Option ℕ) (e : Event V)
      → Stays ops w (λ s. if alive then ended_next ops bodies v part p (treating v (ends cause) tasks s.control) operation e (record s { heap = ops.finalize s.heap v part }) else halts (Erroneous FinalizesTwice))
  part_ended true v part p cause tasks operation e a suspended s =
      let t = record s { heap = ops.finalize s.heap v part } in
      subst (λ (behind : List (Frame V)). NextBefore w (ended_next ops bodies v part p (treating v (ends cause) tasks s.control) operation e (topped a suspended t)) (ended_next ops bodies v part p behind operation e (before w (topped a suspended t))))
      (sym (treating_before v (ends cause) tasks s.control w.control))
      (ended_stays v part p (treating v (ends cause) tasks s.control) operation e a suspended t)
  part_ended false v part p cause tasks operation e a suspended s = refl

  finalized_stays : (v : V) (cause : Cause) (of part : ℕ) (tasks : List Task) (operation : Option ℕ) (found : Option PartState) → Stays ops w (finalized_next ops bodies v cause of part tasks operation found)
  finalized_stays v cause of part tasks operation None a suspended s = refl
  finalized_stays v cause of part tasks operation (Some p) a suspended s =
      part_ended p.alive v part p cause tasks operation (Finalized v part p.turn of p.number cause) a suspended s

  -- The operation of a part is called.
  performed_stays : (v : V) (treatment : Treatment) (of part : ℕ) (tasks : List Task) (found : Found (Cell V)) → Stays ops w (performed_next ops types bodies v treatment of part tasks found)
  performed_stays v (begins by done) of part tasks on_null a suspended s = refl
  performed_stays v (begins by done) of part tasks on_gone a suspended s = refl
  performed_stays v (begins by done) of part tasks on_other a suspended s = refl
  performed_stays v (begins by done) of part tasks (finds cell) a suspended s =
      begun_stays v by done of part tasks (beginning by (operations_of types of)) (slice_get cell.parts part) a suspended s
  performed_stays v (ends cause) of part tasks on_null a suspended s = refl
  performed_stays v (ends cause) of part tasks on_gone a suspended s = refl
  performed_stays v (ends cause) of part tasks on_other a suspended s = refl
  performed_stays v (ends cause) of part tasks (finds cell) a suspended s =
      finalized_stays v cause of part tasks (procedure_number (operations_of types of).finalize) (slice_get cell.parts part) a suspended s

  -- One of so many components is picked, if there are any.
  picked_stays : (none : Bool) (count : ℕ) (v : V) (treatment : Treatment) (tasks : List Task) → Stays ops w (λ s. if none then halts Stuck else picks count (λ i. treated_on ops v treatment (picked_task (shapes_of types) (direction_of treatment) tasks i) s))
  picked_stays true count v treatment tasks a suspended s = refl
  picked_stays false count v treatment tasks a suspended s = (
    λ i. treated_on ops v treatment (picked_task (shapes_of types) (direction_of treatment) tasks i) (before w (topped a suspended s)),
    refl,
    λ i. ap (λ (k : List (Frame V)). at k (before w (topped a suspended s)))
        (treating_before v treatment (picked_task (shapes_of types) (direction_of treatment) tasks i) s.control w.control),
  )

  -- The next step of a treatment.
  pub treats_stays : (v : V) (treatment : Treatment) (tasks : List Task) (follows : Follows) → Stays ops w (treats_next ops types bodies v treatment tasks follows)
  treats_stays v treatment tasks Done a suspended s = refl
  treats_stays v treatment tasks (Pick count) a suspended s = picked_stays (count == 0) count v treatment tasks a suspended s
  treats_stays v treatment tasks (Perform of part) a suspended s = performed_stays v treatment of part (performed tasks) (ops.look s.heap v) a suspended s
