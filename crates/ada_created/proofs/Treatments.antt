-- What is left to do stays in order while an object is treated (7.6, 7.6.1), and while a master is left. Where an operation is called, the declarative parts of
-- its body are those of the text.

use Rattle.std.proofs.Common.{◌≡◌, ℕ, ◌==◌, Bool, true, false, if◌then◌else◌, List, [], ◌∷◌, Option, Some, None, refl}
use Rattle.std.specs.List.{slice_get, slice_index_or}
use Rattle.ada_parts.specs.declared.tasks.Direction.TheVariants.{WholeFirst}
use Rattle.ada_parts.specs.declared.tasks.Next.{Next as Follows}
use Rattle.ada_parts.specs.declared.tasks.Next.TheVariants.{Done, Pick, Perform}
use Rattle.ada_parts.specs.Part.{Part}
use Rattle.ada_parts.specs.Task.{Task, performed}
use Rattle.ada_program.specs.declared.program.TypeDefinition.{TypeDefinition}
use Rattle.ada_program.specs.Controlled.{operations_of, procedure_number, shapes_of}
use Rattle.ada_program.specs.ProgramForm.{BodyForm}
use Rattle.ada_meaning.specs.declared.event.Birth.{Birth}
use Rattle.ada_meaning.specs.declared.event.Cause.{Cause}
use Rattle.ada_meaning.specs.declared.event.Cause.TheVariants.{Leaving}
use Rattle.ada_meaning.specs.declared.event.Halt.TheVariants.{Erroneous, Stuck}
use Rattle.ada_meaning.specs.declared.event.Why.TheVariants.{FinalizesTwice}
use Rattle.ada_meaning.specs.declared.state.Mode.{Mode}
use Rattle.ada_meaning.specs.declared.state.Value.{Value}
use Rattle.ada_meaning.specs.declared.state.Value.TheVariants.{Null}
use Rattle.ada_meaning.specs.Event.{Finalized, Quiet}
use Rattle.ada_meaning.specs.Frame.{Frame, Treatment}
use Rattle.ada_meaning.specs.Frame as frame
use Rattle.ada_meaning.specs.Heap.{PartState, Cell, Found, on_null, on_gone, on_other, finds}
use Rattle.ada_meaning.specs.Named.{State, named, look, on_object, finalized_part, treated, members}
use Rattle.ada_meaning.specs.Run.{Event}
use Rattle.ada_meaning.specs.State.{Owned, declared, collection, record_object, storage_pool, Item, Master}
use Rattle.ada_meaning.specs.Step.{older, shorter, picked_task, all_tasks, halts, picks, direction_of, beginning as begun_by, at, treating, treated_on, operation_next, part_reference, born_next, begun_next, awaited_next, ended_next, finalized_next, performed_next, treats_next, taken_out, members_next, item_leave_next, master_leave_next, leave_next}
use Rattle.ada_operations.specs.Created.{body_collections}
use Rattle.ada_created.proofs.Control.{Each, HasBegun, Orderly, Stands, AllOrderly, past_shorter, shorter_begun, treating_orderly}

-- The declarative parts of each of these bodies are such ones.
abbrev pub BodiesFit : (List ℕ → Type 0) → List BodyForm → Type 0
BodiesFit P bodies = (procedure : ℕ) (b : BodyForm) → slice_get bodies procedure ≡ Some b → Each P (body_collections b)

module _ (P : List ℕ → Type 0) (bodies : List BodyForm) (each : BodiesFit P bodies) where
  -- The body of an operation begins (7.6, 6.4).
  operation_orderly : (procedure : ℕ) (body : Option BodyForm) (reference : Value) (behind : List (Frame Value)) (event : Event) (s : State)
      → slice_get bodies procedure ≡ body → Orderly P behind s.masters
      → AllOrderly P (operation_next named procedure body reference behind event s)
  operation_orderly procedure None reference behind event s at_body h = tt
  operation_orderly procedure (Some b) reference behind event s at_body h = (each procedure b at_body, (tt, h))

  -- A part begins.
  born_orderly : (v : Value) (by : Birth) (done : List Part) (of part : ℕ) (tasks : List Task) (o : Option PartState) (s : State)
      → Stands P s → AllOrderly P (born_next named v by done of part tasks o s)
  born_orderly v by done of part tasks None s h = tt
  born_orderly v by done of part tasks (Some p) s h =
      treating_orderly P v (frame.begins by (record { of = of; number = part } ∷ done)) tasks s.control s.masters h

  begun_orderly : (v : Value) (by : Birth) (done : List Part) (of part : ℕ) (tasks : List Task) (operation : Option ℕ) (o : Option PartState) (s : State)
      → Stands P s → AllOrderly P (begun_next named bodies v by done of part tasks operation o s)
  begun_orderly v by done of part tasks operation None s h = tt
  begun_orderly v by done of part tasks None (Some p) s h = born_orderly v by done of part tasks (Some p) s h
  begun_orderly v by done of part tasks (Some procedure) (Some p) s h =
      operation_orderly procedure (slice_get bodies procedure) (part_reference named v part p) (frame.Awaits v by done of part tasks ∷ s.control) Quiet s refl
      (tt, h)

  pub awaited_orderly : (v : Value) (by : Birth) (done : List Part) (of part : ℕ) (tasks : List Task) (found : Found (Cell Value)) (s : State)
      → Stands P s → AllOrderly P (awaited_next named v by done of part tasks found s)
  awaited_orderly v by done of part tasks on_null s h = tt
  awaited_orderly v by done of part tasks on_gone s h = tt
  awaited_orderly v by done of part tasks on_other s h = tt
  awaited_orderly v by done of part tasks (finds cell) s h = born_orderly v by done of part tasks (slice_get cell.parts part) s h

  -- The value of a part is finalized.
  ended_orderly : (v : Value) (part : ℕ) (p : PartState) (behind : List (Frame Value)) (operation : Option ℕ) (event : Event) (s : State)
      → Orderly P behind s.masters → AllOrderly P (ended_next named bodies v part p behind operation event s)
  ended_orderly v part p behind None event s h = h
  ended_orderly v part p behind (Some procedure) event s h =
      operation_orderly procedure (slice_get bodies procedure) (part_reference named v part p) (frame.Confines ∷ behind) event s refl (tt, h)

  alive_orderly : (alive : Bool) (v : Value) (part : ℕ) (behind : List (Frame Value)) (operation : Option ℕ) (event : Event) (p : PartState) (s : State)
      → Orderly P behind s.masters
      → AllOrderly P (if alive then ended_next named bodies v part p behind operation event
      (record s { heap = on_object (treated finalized_part part) s.heap v }) else halts (Erroneous FinalizesTwice))
  alive_orderly false v part behind operation event p s h = tt
  alive_orderly true v part behind operation event p s h =
      ended_orderly v part p behind operation event (record s { heap = on_object (treated finalized_part part) s.heap v }) h

  finalized_orderly : (v : Value) (cause : Cause) (of part : ℕ) (tasks : List Task) (operation : Option ℕ) (o : Option PartState) (s : State)
      → Stands P s → AllOrderly P (finalized_next named bodies v cause of part tasks operation o s)
  finalized_orderly v cause of part tasks operation None s h = tt
  finalized_orderly v cause of part tasks operation (Some p) s h =
      alive_orderly p.alive v part (treating v (frame.ends cause) tasks s.control) operation (Finalized v part p.turn of p.number cause) p s
      (treating_orderly P v (frame.ends cause) tasks s.control s.masters h)

  module _ (types : List TypeDefinition) where
    -- A step of the treatment of an object.
    performed_orderly : (v : Value) (treatment : Treatment) (of part : ℕ) (tasks : List Task) (found : Found (Cell Value)) (s : State)
        → Stands P s → AllOrderly P (performed_next named types bodies v treatment of part tasks found s)
    performed_orderly v treatment of part tasks on_null s h = tt
    performed_orderly v treatment of part tasks on_gone s h = tt
    performed_orderly v treatment of part tasks on_other s h = tt
    performed_orderly v (frame.begins by done) of part tasks (finds cell) s h =
        begun_orderly v by done of part tasks (begun_by by (operations_of types of)) (slice_get cell.parts part) s h
    performed_orderly v (frame.ends cause) of part tasks (finds cell) s h =
        finalized_orderly v cause of part tasks (procedure_number (operations_of types of).finalize) (slice_get cell.parts part) s h

    picked_orderly : (none : Bool) (v : Value) (treatment : Treatment) (tasks : List Task) (count : ℕ) (s : State) → Stands P s
        → AllOrderly P (if none then halts Stuck else picks count
        (λ i. treated_on named v treatment (picked_task (shapes_of types) (direction_of treatment) tasks i) s))
    picked_orderly true v treatment tasks count s h = tt
    picked_orderly false v treatment tasks count s h =
        λ i. treating_orderly P v treatment (picked_task (shapes_of types) (direction_of treatment) tasks i) s.control s.masters h

    pub treats_orderly : (v : Value) (treatment : Treatment) (tasks : List Task) (next : Follows) (s : State) → Stands P s
        → AllOrderly P (treats_next named types bodies v treatment tasks next s)
    treats_orderly v treatment tasks Done s h = h
    treats_orderly v treatment tasks (Pick count) s h = picked_orderly (count == 0) v treatment tasks count s h
    treats_orderly v treatment tasks (Perform of part) s h = performed_orderly v treatment of part (performed tasks) (look s.heap v) s h

module _ (P : List ℕ → Type 0) (types : List TypeDefinition) where
  -- A master is being left (7.6.1): an object is taken before its newest item goes.
  taken_orderly : (cause : Cause) (pool : Option ℕ) (v : Value) (found : Found (Cell Value)) (s : State) → Stands P s
      → Stands P (taken_out named types cause pool v found s)
  taken_orderly cause pool v on_null s h = (tt, (tt, h))
  taken_orderly cause pool v on_gone s h = (tt, (tt, h))
  taken_orderly cause pool v on_other s h = (tt, (tt, h))
  taken_orderly cause pool v (finds cell) s h =
      treating_orderly P v (frame.ends cause) (all_tasks types cell.access WholeFirst) (frame.Ends v ∷ frame.GivesBack v cause pool ∷ s.control) s.masters
      (tt, (tt, h))

  members_orderly : (cause : Cause) (pool : Option ℕ) (vs : List Value) (s : State) → Stands P s → Orderly P s.control (shorter s.masters)
      → AllOrderly P (members_next named types cause pool vs s)
  members_orderly cause pool [] s h gone = gone
  members_orderly cause pool (v ∷ vs) s h gone =
      λ i. (let one = slice_index_or (v ∷ vs) i Null in taken_orderly cause pool one (look s.heap one) s h)

  item_leave_orderly : (m : ℕ) (item : Item) (owned : Owned) (s : State) → Stands P s → Orderly P s.control (shorter s.masters)
      → AllOrderly P (item_leave_next named types m item owned s)
  item_leave_orderly m item (declared x) s h gone = gone
  item_leave_orderly m item (storage_pool declaration number) s h gone = gone
  item_leave_orderly m item (collection access pool) s h gone = members_orderly (Leaving m item.number) pool (members s.heap item.number) s h gone
  item_leave_orderly m item (record_object t) s h gone = members_orderly (Leaving m item.number) None (members s.heap item.number) s h gone

  -- Where no item is left, what is behind the master goes on.
  master_leave_orderly : (mode : Mode) (m : ℕ) (items : List Item) (s : State) → HasBegun P s.masters → Orderly P s.control (older s.masters)
      → AllOrderly P (master_leave_next named types mode m items s)
  master_leave_orderly mode m [] s own h = h
  master_leave_orderly mode m (item ∷ items) s own h =
      item_leave_orderly m item item.owned (at (frame.Leaves mode ∷ s.control) s) (own, h)
      (shorter_begun P s.masters own, past_shorter P s.control s.masters h)

  pub leave_orderly : (mode : Mode) (ms : List Master) (s : State) → HasBegun P s.masters → Orderly P s.control (older s.masters)
      → AllOrderly P (leave_next named types mode ms s)
  leave_orderly mode [] s own h = tt
  leave_orderly mode (m ∷ ms) s own h = master_leave_orderly mode m.number m.items s own h
