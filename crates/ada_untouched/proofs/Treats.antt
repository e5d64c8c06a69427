-- What is done as an object is treated, in states whose heaps are related so, where it is no ghost: its controlled parts are looked at, and none of its components.

use Rattle.std.proofs.Common.{ℕ, Bool, true, false, List, ◌∷◌, Option, Some, None, refl}
use Rattle.std.specs.Prelude.{◌==◌, if◌then◌else◌}
use Rattle.std.specs.List.{slice_get}
use Rattle.ada_parts.specs.declared.tasks.Next.{Next as Follows}
use Rattle.ada_parts.specs.declared.tasks.Next.TheVariants.{Done, Pick, Perform}
use Rattle.ada_parts.specs.Part.{Part}
use Rattle.ada_parts.specs.Task.{Task, performed}
use Rattle.ada_program.specs.declared.program.TypeDefinition.{TypeDefinition}
use Rattle.ada_program.specs.Controlled.{operations_of, procedure_number, shapes_of}
use Rattle.ada_program.specs.ProgramForm.{BodyForm}
use Rattle.ada_meaning.specs.declared.event.Birth.{Birth}
use Rattle.ada_meaning.specs.declared.event.Cause.{Cause}
use Rattle.ada_meaning.specs.declared.event.Halt.TheVariants.{Stuck, Erroneous}
use Rattle.ada_meaning.specs.declared.event.Why.TheVariants.{FinalizesTwice}
use Rattle.ada_meaning.specs.declared.state.Id.{Id}
use Rattle.ada_meaning.specs.declared.state.Value.{Value}
use Rattle.ada_meaning.specs.Event.{Event, Born, Finalized, Quiet}
use Rattle.ada_meaning.specs.Frame.{Treatment, begins, ends, Frame}
use Rattle.ada_meaning.specs.Frame as frame
use Rattle.ada_meaning.specs.Heap.{PartState}
use Rattle.ada_meaning.specs.State.{counted}
use Rattle.ada_meaning.specs.Step.{halts, picks, at, treating, treated_on, direction_of, picked_task, beginning, operating, operation_next, part_reference, born_next, awaited_next, begun_next, ended_next, finalized_next, performed_next, treats_next}
use Rattle.ada_meaning.specs.Named.{Object, State, named, look, bear, finalize, born_part, finalized_part}
use Rattle.ada_untouched.specs.Alike.{SparesGhosts}
use Rattle.ada_untouched.specs.Untouched.{IsInSight}
use Rattle.ada_untouched.proofs.Relation.{Keeps, NextSo}
use Rattle.ada_untouched.proofs.Forms.{over, alike, goes, Same, by_look}

module _ {hidden : Id → (component : ℕ) → Bool} {ghosts : Id → Bool} {AreSo : List Object → List Object → Type 0} (keeps : Keeps hidden ghosts AreSo) (types : List TypeDefinition) (bodies : List BodyForm) where
  -- The body of an operation begins (7.6, 6.4).
  operation_same : (procedure : ℕ) (found : Option BodyForm) (reference : Value) (behind : List (Frame Value)) (e : Event Value) → SparesGhosts ghosts e → Same keeps (operation_next named procedure found reference behind e)
  operation_same procedure None reference behind e spares s k a = refl
  operation_same procedure (Some b) reference behind e spares s k a = goes keeps e spares (operating named procedure b reference behind s) k a

  -- A part comes to have a value (7.6).
  born_same : (v : Value) (by : Birth) (done : List Part) (of part : ℕ) (tasks : List Task) (found : Option PartState) → Same keeps (born_next named v by done of part tasks found)
  born_same v by done of part tasks None s k a = refl
  born_same v by done of part tasks (Some p) s k a =
      goes keeps (Born v part p.turn of (counted s.born) by) tt
      (treated_on named v (begins by (record { of = of; number = part } ∷ done)) tasks
      (record s { born = counted s.born; heap = bear s.heap v part (counted s.born) }))
      (bear k v part (counted s.born))
      (keeps.treats s.heap k a (born_part (counted s.born)) part v)

  -- So it does once the operation has ended that begins it.
  pub awaited_same : (v : Value) (by : Birth) (done : List Part) (of part : ℕ) (tasks : List Task) (s : State) (k : List Object) → AreSo s.heap k → IsInSight ghosts v → NextSo ghosts AreSo (awaited_next named v by done of part tasks (look s.heap v) s) (awaited_next named v by done of part tasks (look k v) (over k s))
  awaited_same v by done of part tasks s k a clear =
      by_look keeps v
      (λ f g. NextSo ghosts AreSo (awaited_next named v by done of part tasks f s) (awaited_next named v by done of part tasks g (over k s)))
      refl refl refl
      (λ cell us both. born_same v by done of part tasks (slice_get cell.parts part) s k a)
      s.heap k a clear

  -- The operation that begins a part is called (7.6), or does nothing.
  begun_same : (v : Value) (by : Birth) (done : List Part) (of part : ℕ) (tasks : List Task) (operation : Option ℕ) (found : Option PartState) → Same keeps (begun_next named bodies v by done of part tasks operation found)
  begun_same v by done of part tasks None None s k a = refl
  begun_same v by done of part tasks (Some procedure) None s k a = refl
  begun_same v by done of part tasks None (Some p) s k a = born_same v by done of part tasks (Some p) s k a
  begun_same v by done of part tasks (Some procedure) (Some p) s k a =
      operation_same procedure (slice_get bodies procedure) (part_reference named v part p) (frame.Awaits v by done of part tasks ∷ s.control) Quiet tt s k a

  -- Finalize of a part is called (7.6.1), or does nothing.
  ended_same : (v : Value) (part : ℕ) (p : PartState) (behind : List (Frame Value)) (operation : Option ℕ) (e : Event Value) → SparesGhosts ghosts e → Same keeps (ended_next named bodies v part p behind operation e)
  ended_same v part p behind None e spares s k a = goes keeps e spares (at behind s) k a
  ended_same v part p behind (Some procedure) e spares s k a =
      operation_same procedure (slice_get bodies procedure) (part_reference named v part p) (frame.Confines ∷ behind) e spares s k a

  -- The value of a part is finalized, if there is one.
  part_ended : (alive : Bool) (v : Value) (part : ℕ) (p : PartState) (behind : List (Frame Value)) (operation : Option ℕ) (e : Event Value) → SparesGhosts ghosts e → Same keeps (λ s. if alive then ended_next named bodies v part p behind operation e (record s { heap = finalize s.heap v part }) else halts (Erroneous FinalizesTwice))
  part_ended true v part p behind operation e spares s k a =
      ended_same v part p behind operation e spares (record s { heap = finalize s.heap v part }) (finalize k v part)
      (keeps.treats s.heap k a finalized_part part v)
  part_ended false v part p behind operation e spares s k a = refl

  finalized_same : (v : Value) (cause : Cause) (of part : ℕ) (tasks : List Task) (operation : Option ℕ) (found : Option PartState) → Same keeps (finalized_next named bodies v cause of part tasks operation found)
  finalized_same v cause of part tasks operation None s k a = refl
  finalized_same v cause of part tasks operation (Some p) s k a =
      part_ended p.alive v part p (treating v (ends cause) tasks s.control) operation (Finalized v part p.turn of p.number cause) tt s k a

  -- The operation of a part is called.
  performed_same : (v : Value) (treatment : Treatment) (of part : ℕ) (tasks : List Task) (s : State) (k : List Object) → AreSo s.heap k → IsInSight ghosts v → NextSo ghosts AreSo (performed_next named types bodies v treatment of part tasks (look s.heap v) s) (performed_next named types bodies v treatment of part tasks (look k v) (over k s))
  performed_same v (begins by done) of part tasks s k a clear =
      by_look keeps v
      (λ f g. NextSo ghosts AreSo (performed_next named types bodies v (begins by done) of part tasks f s) (performed_next named types bodies v (begins by done) of part tasks g (over k s)))
      refl refl refl
      (λ cell us both. begun_same v by done of part tasks (beginning by (operations_of types of)) (slice_get cell.parts part) s k a)
      s.heap k a clear
  performed_same v (ends cause) of part tasks s k a clear =
      by_look keeps v
      (λ f g. NextSo ghosts AreSo (performed_next named types bodies v (ends cause) of part tasks f s) (performed_next named types bodies v (ends cause) of part tasks g (over k s)))
      refl refl refl
      (λ cell us both. finalized_same v cause of part tasks (procedure_number (operations_of types of).finalize) (slice_get cell.parts part) s k a)
      s.heap k a clear

  -- One of so many components is picked, if there are any.
  picked_same : (none : Bool) (count : ℕ) (v : Value) (treatment : Treatment) (tasks : List Task) → Same keeps (λ s. if none then halts Stuck else picks count (λ i. treated_on named v treatment (picked_task (shapes_of types) (direction_of treatment) tasks i) s))
  picked_same true count v treatment tasks s k a = refl
  picked_same false count v treatment tasks s k a = (
    λ i. treated_on named v treatment (picked_task (shapes_of types) (direction_of treatment) tasks i) (over k s),
    refl,
    λ i. alike keeps (treated_on named v treatment (picked_task (shapes_of types) (direction_of treatment) tasks i) s) k a,
  )

  -- The next step of a treatment.
  pub treats_same : (v : Value) (treatment : Treatment) (tasks : List Task) (follows : Follows) (s : State) (k : List Object) → AreSo s.heap k → IsInSight ghosts v → NextSo ghosts AreSo (treats_next named types bodies v treatment tasks follows s) (treats_next named types bodies v treatment tasks follows (over k s))
  treats_same v treatment tasks Done s k a clear = goes keeps Quiet tt s k a
  treats_same v treatment tasks (Pick count) s k a clear = picked_same (count == 0) count v treatment tasks s k a
  treats_same v treatment tasks (Perform of part) s k a clear = performed_same v treatment of part (performed tasks) s k a clear
