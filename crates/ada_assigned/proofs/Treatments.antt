-- What is left to do assigns inside of formal parameters alone while an object is treated (7.6, 7.6.1), and while a master is left.

use Rattle.std.proofs.Common.{◌≡◌, ℕ, ◌==◌, Bool, true, false, if◌then◌else◌, List, [], ◌∷◌, Option, Some, None, refl}
use Rattle.std.specs.List.{slice_get, slice_index_or}
use Rattle.ada_program.specs.declared.program.TypeDefinition.{TypeDefinition}
use Rattle.ada_program.specs.Controlled.{operations_of, procedure_number, shapes_of}
use Rattle.ada_program.specs.ProgramForm.{BodyForm}
use Rattle.ada_parts.specs.declared.tasks.Direction.TheVariants.{WholeFirst}
use Rattle.ada_parts.specs.declared.tasks.Next.{Next as Follows}
use Rattle.ada_parts.specs.declared.tasks.Next.TheVariants.{Done, Pick, Perform}
use Rattle.ada_parts.specs.Part.{Part}
use Rattle.ada_parts.specs.Task.{Task, performed}
use Rattle.ada_meaning.specs.declared.event.Birth.{Birth}
use Rattle.ada_meaning.specs.declared.event.Cause.{Cause}
use Rattle.ada_meaning.specs.declared.event.Cause.TheVariants.{Leaving}
use Rattle.ada_meaning.specs.declared.event.Halt.TheVariants.{Erroneous, Stuck}
use Rattle.ada_meaning.specs.declared.event.Why.TheVariants.{FinalizesTwice}
use Rattle.ada_meaning.specs.declared.state.Mode.{Mode}
use Rattle.ada_meaning.specs.declared.state.Value.{Value}
use Rattle.ada_meaning.specs.declared.state.Value.TheVariants.{Null}
use Rattle.ada_meaning.specs.Event.{Finalized, Quiet}
use Rattle.ada_meaning.specs.Frame.{Frame, Treatment}
use Rattle.ada_meaning.specs.Frame as frame
use Rattle.ada_meaning.specs.Heap.{PartState, Cell, Found, on_null, on_gone, on_other, finds}
use Rattle.ada_meaning.specs.Named.{State, named, look, on_object, finalized_part, treated, members}
use Rattle.ada_meaning.specs.Run.{Event}
use Rattle.ada_meaning.specs.State.{Owned, declared, collection, record_object, storage_pool, Item, Master}
use Rattle.ada_meaning.specs.Step.{picked_task, all_tasks, halts, picks, direction_of, beginning as begun_by, at, treating, treated_on, operation_next, part_reference, born_next, begun_next, awaited_next, ended_next, finalized_next, performed_next, treats_next, taken_out, members_next, item_leave_next, master_leave_next, leave_next}
use Rattle.ada_assigned.proofs.Keeping.{Told, BodyAssigns, Assignable, Keeps, AllKeep, OperationsAssign}
use Rattle.ada_assigned.proofs.Evaluations.{treating_keeps}

module _ (types : List TypeDefinition) (told : Told) (bodies : List BodyForm) (operations : OperationsAssign types told bodies) where
  -- The body of an operation begins (7.6, 6.4): it holds of that.
  operation_keeps : (procedure : ℕ) (body : Option BodyForm) (reference : Value) (behind : List (Frame Value)) (event : Event) (s : State)
      → ((b : BodyForm) → body ≡ Some b → BodyAssigns (Assignable types told 0 behind) b) → Keeps types told behind
      → AllKeep types told (operation_next named procedure body reference behind event s)
  operation_keeps procedure None reference behind event s own h = tt
  operation_keeps procedure (Some b) reference behind event s own h = (own b refl, (tt, h))

  -- A part begins.
  born_keeps : (v : Value) (by : Birth) (done : List Part) (of part : ℕ) (tasks : List Task) (o : Option PartState) (s : State) → Keeps types told s.control
      → AllKeep types told (born_next named v by done of part tasks o s)
  born_keeps v by done of part tasks None s h = tt
  born_keeps v by done of part tasks (Some p) s h =
      treating_keeps types told v (frame.begins by (record { of = of; number = part } ∷ done)) tasks s.control h

  begun_keeps : (v : Value) (by : Birth) (done : List Part) (of part : ℕ) (tasks : List Task) (operation : Option ℕ) (o : Option PartState) (s : State)
      → begun_by by (operations_of types of) ≡ operation → Keeps types told s.control
      → AllKeep types told (begun_next named bodies v by done of part tasks operation o s)
  begun_keeps v by done of part tasks operation None s is h = tt
  begun_keeps v by done of part tasks None (Some p) s is h = born_keeps v by done of part tasks (Some p) s h
  begun_keeps v by done of part tasks (Some procedure) (Some p) s is h =
      operation_keeps procedure (slice_get bodies procedure) (part_reference named v part p) (frame.Awaits v by done of part tasks ∷ s.control) Quiet s
      (operations.beginning by of procedure is) (tt, h)

  pub awaited_keeps : (v : Value) (by : Birth) (done : List Part) (of part : ℕ) (tasks : List Task) (found : Found (Cell Value)) (s : State) → Keeps types told s.control
      → AllKeep types told (awaited_next named v by done of part tasks found s)
  awaited_keeps v by done of part tasks on_null s h = tt
  awaited_keeps v by done of part tasks on_gone s h = tt
  awaited_keeps v by done of part tasks on_other s h = tt
  awaited_keeps v by done of part tasks (finds cell) s h =
      born_keeps v by done of part tasks (slice_get cell.parts part) s h

  -- The value of a part is finalized.
  ended_keeps : (v : Value) (of part : ℕ) (p : PartState) (behind : List (Frame Value)) (operation : Option ℕ) (event : Event) (s : State)
      → procedure_number (operations_of types of).finalize ≡ operation → Keeps types told behind → AllKeep types told (ended_next named bodies v part p behind operation event s)
  ended_keeps v of part p behind None event s is h = h
  ended_keeps v of part p behind (Some procedure) event s is h =
      operation_keeps procedure (slice_get bodies procedure) (part_reference named v part p) (frame.Confines ∷ behind) event s (operations.ending of procedure is) (tt, h)

  alive_keeps : (alive : Bool) (v : Value) (of part : ℕ) (behind : List (Frame Value)) (operation : Option ℕ) (event : Event) (p : PartState) (s : State)
      → procedure_number (operations_of types of).finalize ≡ operation → Keeps types told behind
      → AllKeep types told (if alive then ended_next named bodies v part p behind operation event
      (record s { heap = on_object (treated finalized_part part) s.heap v }) else halts (Erroneous FinalizesTwice))
  alive_keeps false v of part behind operation event p s is h = tt
  alive_keeps true v of part behind operation event p s is h =
      ended_keeps v of part p behind operation event (record s { heap = on_object (treated finalized_part part) s.heap v }) is h

  finalized_keeps : (v : Value) (cause : Cause) (of part : ℕ) (tasks : List Task) (operation : Option ℕ) (o : Option PartState) (s : State)
      → procedure_number (operations_of types of).finalize ≡ operation → Keeps types told s.control → AllKeep types told (finalized_next named bodies v cause of part tasks operation o s)
  finalized_keeps v cause of part tasks operation None s is h = tt
  finalized_keeps v cause of part tasks operation (Some p) s is h =
      alive_keeps p.alive v of part (treating v (frame.ends cause) tasks s.control) operation (Finalized v part p.turn of p.number cause) p s is
      (treating_keeps types told v (frame.ends cause) tasks s.control h)

  performed_keeps : (v : Value) (treatment : Treatment) (of part : ℕ) (tasks : List Task) (found : Found (Cell Value)) (s : State) → Keeps types told s.control
      → AllKeep types told (performed_next named types bodies v treatment of part tasks found s)
  performed_keeps v treatment of part tasks on_null s h = tt
  performed_keeps v treatment of part tasks on_gone s h = tt
  performed_keeps v treatment of part tasks on_other s h = tt
  performed_keeps v (frame.begins by done) of part tasks (finds cell) s h =
      begun_keeps v by done of part tasks (begun_by by (operations_of types of)) (slice_get cell.parts part) s refl h
  performed_keeps v (frame.ends cause) of part tasks (finds cell) s h =
      finalized_keeps v cause of part tasks (procedure_number (operations_of types of).finalize) (slice_get cell.parts part) s refl h

  picked_keeps : (none : Bool) (v : Value) (treatment : Treatment) (tasks : List Task) (count : ℕ) (s : State) → Keeps types told s.control
      → AllKeep types told (if none then halts Stuck else picks count
      (λ i. treated_on named v treatment (picked_task (shapes_of types) (direction_of treatment) tasks i) s))
  picked_keeps true v treatment tasks count s h = tt
  picked_keeps false v treatment tasks count s h =
      λ i below. let rest = picked_task (shapes_of types) (direction_of treatment) tasks i in
      treating_keeps types told v treatment rest s.control h

  -- A step of a treatment.
  pub treats_keeps : (v : Value) (treatment : Treatment) (tasks : List Task) (next : Follows) (s : State) → Keeps types told s.control
      → AllKeep types told (treats_next named types bodies v treatment tasks next s)
  treats_keeps v treatment tasks Done s h = h
  treats_keeps v treatment tasks (Pick count) s h = picked_keeps (count == 0) v treatment tasks count s h
  treats_keeps v treatment tasks (Perform of part) s h = performed_keeps v treatment of part (performed tasks) (look s.heap v) s h

  -- A master is being left: its newest item goes, or an object is taken before that.
  taken_keeps : (cause : Cause) (pool : Option ℕ) (v : Value) (found : Found (Cell Value)) (s : State) → Keeps types told s.control
      → Keeps types told (taken_out named types cause pool v found s).control
  taken_keeps cause pool v on_null s h = (tt, (tt, h))
  taken_keeps cause pool v on_gone s h = (tt, (tt, h))
  taken_keeps cause pool v on_other s h = (tt, (tt, h))
  taken_keeps cause pool v (finds cell) s h =
      treating_keeps types told v (frame.ends cause) (all_tasks types cell.access WholeFirst) (frame.Ends v ∷ frame.GivesBack v cause pool ∷ s.control)
      (tt, (tt, h))

  members_keeps : (cause : Cause) (pool : Option ℕ) (vs : List Value) (s : State) → Keeps types told s.control
      → AllKeep types told (members_next named types cause pool vs s)
  members_keeps cause pool [] s h = h
  members_keeps cause pool (v ∷ vs) s h =
      λ i below. let one = slice_index_or (v ∷ vs) i Null in taken_keeps cause pool one (look s.heap one) s h

  item_leave_keeps : (m : ℕ) (item : Item) (owned : Owned) (s : State) → Keeps types told s.control
      → AllKeep types told (item_leave_next named types m item owned s)
  item_leave_keeps m item (declared x) s h = h
  item_leave_keeps m item (storage_pool declaration number) s h = h
  item_leave_keeps m item (collection access pool) s h = members_keeps (Leaving m item.number) pool (members s.heap item.number) s h
  item_leave_keeps m item (record_object t) s h = members_keeps (Leaving m item.number) None (members s.heap item.number) s h

  -- No item is left: what is behind the master goes on.
  master_leave_keeps : (mode : Mode) (m : ℕ) (items : List Item) (s : State) → Keeps types told s.control
      → AllKeep types told (master_leave_next named types mode m items s)
  master_leave_keeps mode m [] s h = h
  master_leave_keeps mode m (item ∷ items) s h = item_leave_keeps m item item.owned (at (frame.Leaves mode ∷ s.control) s) (tt, h)

  pub leave_keeps : (mode : Mode) (ms : List Master) (s : State) → Keeps types told s.control
      → AllKeep types told (leave_next named types mode ms s)
  leave_keeps mode [] s h = tt
  leave_keeps mode (m ∷ ms) s h = master_leave_keeps mode m.number m.items s h
