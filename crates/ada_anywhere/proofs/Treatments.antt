-- A step of the treatment of an object leaves the masters as they are (7.6, 7.6.1), and what is behind it nests as before. Where it calls an operation, the
-- body of that nests wherever it stands; and while a master is being left, it loses items, and none is added.

use Rattle.std.proofs.Common.{◌≡◌, ℕ, ◌==◌, Bool, true, false, if◌then◌else◌, List, [], ◌∷◌, Option, Some, None, refl}
use Rattle.std.specs.List.{slice_get, slice_index_or}
use Rattle.std.proofs.lemmas.List.Elements.{All-nil}
use Rattle.ada_parts.specs.declared.tasks.Direction.TheVariants.{WholeFirst}
use Rattle.ada_parts.specs.declared.tasks.Next.{Next as Follows}
use Rattle.ada_parts.specs.declared.tasks.Next.TheVariants.{Done, Pick, Perform}
use Rattle.ada_parts.specs.Part.{Part}
use Rattle.ada_parts.specs.Task.{Task, performed}
use Rattle.ada_program.specs.declared.program.Operations.{Operations}
use Rattle.ada_program.specs.declared.program.ProcedureNo.{ProcedureNo}
use Rattle.ada_program.specs.declared.program.TypeDefinition.{TypeDefinition}
use Rattle.ada_program.specs.Controlled.{operations_of, procedure_number, shapes_of}
use Rattle.ada_program.specs.ProgramForm.{TypeForm, BodyForm}
use Rattle.ada_program.specs.Nested.{Callees, call_nests}
use Rattle.ada_meaning.specs.declared.event.Birth.{Birth}
use Rattle.ada_meaning.specs.declared.event.Birth.TheVariants.{Creation, Copy, Adjustment}
use Rattle.ada_meaning.specs.declared.event.Cause.{Cause}
use Rattle.ada_meaning.specs.declared.event.Cause.TheVariants.{Leaving}
use Rattle.ada_meaning.specs.declared.event.Halt.TheVariants.{Erroneous, Stuck}
use Rattle.ada_meaning.specs.declared.event.Why.TheVariants.{FinalizesTwice}
use Rattle.ada_meaning.specs.declared.state.Mode.{Mode}
use Rattle.ada_meaning.specs.declared.state.Value.{Value}
use Rattle.ada_meaning.specs.declared.state.Value.TheVariants.{Null}
use Rattle.ada_meaning.specs.Event.{Finalized, Quiet}
use Rattle.ada_meaning.specs.Frame.{Frame, Treatment}
use Rattle.ada_meaning.specs.Frame as frame
use Rattle.ada_meaning.specs.Heap.{PartState, Cell, Found, on_null, on_gone, on_other, finds}
use Rattle.ada_meaning.specs.Named.{State, named, look, on_object, finalized_part, treated, members}
use Rattle.ada_meaning.specs.Run.{Event}
use Rattle.ada_meaning.specs.State.{Owned, declared, collection, record_object, storage_pool, Item, Master}
use Rattle.ada_meaning.specs.Step.{picked_task, all_tasks, halts, picks, direction_of, beginning as begun_by, at, older, treating, treated_on, operation_next, part_reference, born_next, begun_next, awaited_next, ended_next, finalized_next, performed_next, treats_next, taken_out, members_next, item_leave_next, master_leave_next, leave_next}
use Rattle.ada_scopes.specs.Scopes.{NestsAnywhere, AllNestAnywhere}
use Rattle.ada_scopes.proofs.Texts.{BodiesNest}
use Rattle.ada_anywhere.specs.Anywhere.{some_waits}
use Rattle.ada_anywhere.proofs.Control.{FrameAnywhere, Anywhere, Here, body_anywhere, treating_anywhere, shorter_anywhere}
use Rattle.ada_anywhere.proofs.Evaluations.{Good}

-- Each operation that a type overrides nests wherever it is called.
abbrev pub OperationsHere : Callees → List TypeDefinition → Type 0
OperationsHere callees definitions = (of : ℕ) → AllNestAnywhere callees (operations_of definitions of)

-- So it is of what is called, if anything is.
abbrev Operates : Callees → Option ℕ → Type 0
Operates callees None = Unit {0}
Operates callees (Some procedure) = (around : List ℕ) → call_nests (slice_get callees procedure) around ≡ true

operates : (callees : Callees) (o : Option ProcedureNo) → NestsAnywhere callees o → Operates callees (procedure_number o)
operates callees None anywhere = tt
operates callees (Some procedure) anywhere = anywhere

begins_so : (callees : Callees) (by : Birth) (o : Operations) → AllNestAnywhere callees o → Operates callees (begun_by by o)
begins_so callees Creation o all = operates callees o.initialize all.0
begins_so callees Copy o all = operates callees o.adjust all.1
begins_so callees (Adjustment number) o all = operates callees o.adjust all.1

module _ (types : List TypeForm) (callees : Callees) (bodies : List BodyForm) (nesting : BodiesNest types callees bodies) where
  -- The body of an operation begins: it nests anywhere, and its master owns nothing yet.
  operation_good : (procedure : ℕ) (body : Option BodyForm) (reference : Value) (behind : List (Frame Value)) (event : Event) (s : State) → slice_get bodies procedure ≡ body → Operates callees (Some procedure) → Anywhere types callees behind s.masters → Good types callees (operation_next named procedure body reference behind event s)
  operation_good procedure None reference behind event s at_body called h = tt
  operation_good procedure (Some b) reference behind event s at_body called h =
      (λ is. (body_anywhere types callees b (λ around. nesting procedure b around at_body (called around)), All-nil _), (tt, h))

  -- A part begins.
  born_good : (v : Value) (by : Birth) (done : List Part) (of part : ℕ) (tasks : List Task) (o : Option PartState) (s : State) → Here types callees s → Good types callees (born_next named v by done of part tasks o s)
  born_good v by done of part tasks None s h = tt
  born_good v by done of part tasks (Some p) s h =
      treating_anywhere types callees v (frame.begins by (record { of = of; number = part } ∷ done)) tasks s.control s.masters h

  begun_good : (v : Value) (by : Birth) (done : List Part) (of part : ℕ) (tasks : List Task) (operation : Option ℕ) (o : Option PartState) (s : State) → Operates callees operation → Here types callees s → Good types callees (begun_next named bodies v by done of part tasks operation o s)
  begun_good v by done of part tasks operation None s called h = tt
  begun_good v by done of part tasks None (Some p) s called h = born_good v by done of part tasks (Some p) s h
  begun_good v by done of part tasks (Some procedure) (Some p) s called h =
      operation_good procedure (slice_get bodies procedure) (part_reference named v part p) (frame.Awaits v by done of part tasks ∷ s.control) Quiet s refl called (tt, h)

  pub awaited_good : (v : Value) (by : Birth) (done : List Part) (of part : ℕ) (tasks : List Task) (found : Found (Cell Value)) (s : State) → Here types callees s → Good types callees (awaited_next named v by done of part tasks found s)
  awaited_good v by done of part tasks on_null s h = tt
  awaited_good v by done of part tasks on_gone s h = tt
  awaited_good v by done of part tasks on_other s h = tt
  awaited_good v by done of part tasks (finds cell) s h = born_good v by done of part tasks (slice_get cell.parts part) s h

  -- The value of a part is finalized.
  ended_good : (v : Value) (part : ℕ) (p : PartState) (behind : List (Frame Value)) (operation : Option ℕ) (event : Event) (s : State) → Operates callees operation → Anywhere types callees behind s.masters → Good types callees (ended_next named bodies v part p behind operation event s)
  ended_good v part p behind None event s called h = h
  ended_good v part p behind (Some procedure) event s called h =
      operation_good procedure (slice_get bodies procedure) (part_reference named v part p) (frame.Confines ∷ behind) event s refl called (tt, h)

  alive_good : (alive : Bool) (v : Value) (part : ℕ) (behind : List (Frame Value)) (operation : Option ℕ) (event : Event) (p : PartState) (s : State) → Operates callees operation → Anywhere types callees behind s.masters → Good types callees (if alive then ended_next named bodies v part p behind operation event (record s { heap = on_object (treated finalized_part part) s.heap v }) else halts (Erroneous FinalizesTwice))
  alive_good false v part behind operation event p s called h = tt
  alive_good true v part behind operation event p s called h =
      ended_good v part p behind operation event (record s { heap = on_object (treated finalized_part part) s.heap v }) called h

  finalized_good : (v : Value) (cause : Cause) (of part : ℕ) (tasks : List Task) (operation : Option ℕ) (o : Option PartState) (s : State) → Operates callees operation → Here types callees s → Good types callees (finalized_next named bodies v cause of part tasks operation o s)
  finalized_good v cause of part tasks operation None s called h = tt
  finalized_good v cause of part tasks operation (Some p) s called h =
      alive_good p.alive v part (treating v (frame.ends cause) tasks s.control) operation (Finalized v part p.turn of p.number cause) p s called
      (treating_anywhere types callees v (frame.ends cause) tasks s.control s.masters h)

  module _ (definitions : List TypeDefinition) (operations : OperationsHere callees definitions) where
    performed_good : (v : Value) (treatment : Treatment) (of part : ℕ) (tasks : List Task) (found : Found (Cell Value)) (s : State) → Here types callees s → Good types callees (performed_next named definitions bodies v treatment of part tasks found s)
    performed_good v treatment of part tasks on_null s h = tt
    performed_good v treatment of part tasks on_gone s h = tt
    performed_good v treatment of part tasks on_other s h = tt
    performed_good v (frame.begins by done) of part tasks (finds cell) s h =
        begun_good v by done of part tasks (begun_by by (operations_of definitions of)) (slice_get cell.parts part) s (begins_so callees by (operations_of definitions of) (operations of)) h
    performed_good v (frame.ends cause) of part tasks (finds cell) s h =
        finalized_good v cause of part tasks (procedure_number (operations_of definitions of).finalize) (slice_get cell.parts part) s
        (operates callees (operations_of definitions of).finalize (operations of).2) h

    picked_good : (none : Bool) (v : Value) (treatment : Treatment) (tasks : List Task) (count : ℕ) (s : State) → Here types callees s → Good types callees (if none then halts Stuck else picks count (λ i. treated_on named v treatment (picked_task (shapes_of definitions) (direction_of treatment) tasks i) s))
    picked_good true v treatment tasks count s h = tt
    picked_good false v treatment tasks count s h =
        λ i. treating_anywhere types callees v treatment (picked_task (shapes_of definitions) (direction_of treatment) tasks i) s.control s.masters h

    -- A step of a treatment.
    pub treats_good : (v : Value) (treatment : Treatment) (tasks : List Task) (next : Follows) (s : State) → Here types callees s → Good types callees (treats_next named definitions bodies v treatment tasks next s)
    treats_good v treatment tasks Done s h = h
    treats_good v treatment tasks (Pick count) s h = picked_good (count == 0) v treatment tasks count s h
    treats_good v treatment tasks (Perform of part) s h = performed_good v treatment of part (performed tasks) (look s.heap v) s h

module _ (types : List TypeForm) (callees : Callees) (definitions : List TypeDefinition) where
  -- A master is being left: its newest item goes, or an object is taken before that.
  taken_good : (cause : Cause) (pool : Option ℕ) (v : Value) (found : Found (Cell Value)) (s : State) → Here types callees s → Here types callees (taken_out named definitions cause pool v found s)
  taken_good cause pool v on_null s h = (tt, (tt, h))
  taken_good cause pool v on_gone s h = (tt, (tt, h))
  taken_good cause pool v on_other s h = (tt, (tt, h))
  taken_good cause pool v (finds cell) s h =
      treating_anywhere types callees v (frame.ends cause) (all_tasks definitions cell.access WholeFirst) (frame.Ends v ∷ frame.GivesBack v cause pool ∷ s.control) s.masters (tt, (tt, h))

  members_good : (cause : Cause) (pool : Option ℕ) (vs : List Value) (s : State) → Here types callees s → Good types callees (members_next named definitions cause pool vs s)
  members_good cause pool [] s h = shorter_anywhere types callees s.control s.masters h
  members_good cause pool (v ∷ vs) s h =
      λ i. let one = slice_index_or (v ∷ vs) i Null in taken_good cause pool one (look s.heap one) s h

  item_leave_good : (m : ℕ) (item : Item) (owned : Owned) (s : State) → Here types callees s → Good types callees (item_leave_next named definitions m item owned s)
  item_leave_good m item (declared x) s h = shorter_anywhere types callees s.control s.masters h
  item_leave_good m item (storage_pool declaration number) s h = shorter_anywhere types callees s.control s.masters h
  item_leave_good m item (collection access pool) s h = members_good (Leaving m item.number) pool (members s.heap item.number) s h
  item_leave_good m item (record_object t) s h = members_good (Leaving m item.number) None (members s.heap item.number) s h

  -- No item is left: what is behind the master goes on.
  master_leave_good : (mode : Mode) (m : ℕ) (items : List Item) (s : State) → FrameAnywhere types callees (some_waits s.control) s.masters (frame.Leaves mode) → Anywhere types callees s.control (older s.masters) → Good types callees (master_leave_next named definitions mode m items s)
  master_leave_good mode m [] s own h = h
  master_leave_good mode m (item ∷ items) s own h = item_leave_good m item item.owned (at (frame.Leaves mode ∷ s.control) s) (own, h)

  pub leave_good : (mode : Mode) (ms : List Master) (s : State) → FrameAnywhere types callees (some_waits s.control) s.masters (frame.Leaves mode) → Anywhere types callees s.control (older s.masters) → Good types callees (leave_next named definitions mode ms s)
  leave_good mode [] s own h = tt
  leave_good mode (m ∷ ms) s own h = master_leave_good mode m.number m.items s own h
