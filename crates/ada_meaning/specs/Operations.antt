-- The operations of controlled types (7.6, 7.6.1): when they are called, and what becomes of an exception that leaves one. Of every program.

use Rattle.std.specs.Prelude.{◌≡◌, ◌≢◌, ◌⊎◌, ℕ, suc, ◌+◌, ◌<◌, true, false, List, [], ◌∷◌, map, take, drop, Option, Some, None}
use Rattle.std.specs.List.{slice_get, slice_set}
use Rattle.ada_parts.specs.declared.tasks.Direction.TheVariants.{WholeFirst}
use Rattle.ada_parts.specs.declared.tasks.Next.TheVariants.{Perform}
use Rattle.ada_parts.specs.Part.{Part}
use Rattle.ada_parts.specs.Task.{Task, performs, performed, next as task_next}
use Rattle.ada_program.specs.declared.program.Exception.{Exception}
use Rattle.ada_program.specs.declared.program.Operations.{Operations}
use Rattle.ada_program.specs.declared.program.ProcedureNo.{ProcedureNo}
use Rattle.ada_program.specs.declared.program.Program.{Program}
use Rattle.ada_program.specs.Controlled.{operations_of}
use Rattle.ada_program.specs.Form.{PathForm, StmtsForm, a_stmt, frees}
use Rattle.ada_program.specs.ProgramForm.{BodyForm, body_forms}
use Rattle.ada_meaning.specs.declared.event.Birth.{Birth}
use Rattle.ada_meaning.specs.declared.event.Birth.TheVariants.{Creation, Copy, Adjustment}
use Rattle.ada_meaning.specs.declared.event.Cause.{Cause}
use Rattle.ada_meaning.specs.declared.event.Cause.TheVariants.{Freeing, Undoing}
use Rattle.ada_meaning.specs.declared.event.Halt.TheVariants.{Escaped, Erroneous}
use Rattle.ada_meaning.specs.declared.event.Why.TheVariants.{EndsTwice, GivesElsewhere, FinalizesTwice}
use Rattle.ada_meaning.specs.declared.state.Id.{Id}
use Rattle.ada_meaning.specs.declared.state.Mode.TheVariants.{Running, Raising}
use Rattle.ada_meaning.specs.declared.state.Place.{Place}
use Rattle.ada_meaning.specs.declared.state.Stage.TheVariants.{Gone}
use Rattle.ada_meaning.specs.declared.state.Value.{Value}
use Rattle.ada_meaning.specs.declared.state.Value.TheVariants.{Names, Part as Within}
use Rattle.ada_meaning.specs.Event.{Born, Finalized, Back, Followed, Quiet}
use Rattle.ada_meaning.specs.Frame.{Treatment, Frame, begins, ends}
use Rattle.ada_meaning.specs.Frame as frame
use Rattle.ada_meaning.specs.Heap.{PartState}
use Rattle.ada_meaning.specs.State.{Activation, counted, home_of, pool_freed_to}
use Rattle.ada_meaning.specs.Step.{all_tasks, parts_held, treating, with_operands}
use Rattle.ada_meaning.specs.Named.{Object, State, object_at}
use Rattle.ada_meaning.specs.Run.{Choice, Event, settled, Step, Halts}
use Rattle.ada_meaning.specs.Calls.{ComesTo, AreOfKinds}

-- There is a step, which shows this, and whatever is answered it leads to a state of which this holds.
pub record Makes (program : Program) (before : State) (shown : Event) (P : State → Type 0) : Type 0 where
  pub goes : (after : State) × Step program before settled shown after
  pub leads : (choice : Choice) (event : Event) (after : State) → Step program before choice event after → (event ≡ shown) × P after

-- The object of a name becomes this one, and every other object is as before.
pub record OneChanges (before after : List Object) (o : Id) (object : Object) : Type 0 where
  pub is : object_at after o ≡ Some object
  pub others : (p : Id) → p ≢ o → object_at after p ≡ object_at before p

-- An object once one of its controlled parts has this state.
abbrev pub with_state : (part : ℕ) → PartState → Object → Object
with_state part state object = record object { cell = record (object.cell) { parts = slice_set object.cell.parts part state } }

-- An object exists (13.11.2).
abbrev pub Exists : Object → Type 0
Exists object = object.stage ≡ Gone → ⊥

-- The object of a name exists, and one of its controlled parts has this state.
pub record HasPart (heap : List Object) (o : Id) (object : Object) (part : ℕ) (state : PartState) : Type 0 where
  pub named : object_at heap o ≡ Some object
  pub exists : Exists object
  pub holds : slice_get object.cell.parts part ≡ Some state

-- What comes next is the operation of a part of an object, which exists; the part has this state.
pub record ComesToPart (treatment : Treatment) (tasks : List Task) (of part : ℕ) (o : Id) (object : Object) (state : PartState)
    (outer : List (Frame Value)) (before : State) : Type 0 where
  pub mode : before.mode ≡ Running
  pub control : before.control ≡ frame.Treats (Names o) treatment tasks ∷ outer
  pub comes : task_next tasks ≡ Perform of part
  pub has : HasPart before.heap o object part state

-- A type overrides the operation by which values begin so (7.6): Initialize as an object is created, Adjust where a value is copied.
abbrev pub BeginsBy : Birth → Operations → Option ProcedureNo → Type 0
BeginsBy Creation operations procedure = operations.initialize ≡ procedure
BeginsBy Copy operations procedure = operations.adjust ≡ procedure
BeginsBy (Adjustment number) operations procedure = operations.adjust ≡ procedure

-- The body of an operation is next (6.4, 7.6): it is a master, its one formal parameter stands for a part of an object, and its other variables have places.
-- What was under way waits behind it, with all that it has computed.
pub record IsCalled (procedure : ℕ) (body : BodyForm) (o : Id) (place : Place) (behind : List (Frame Value)) (before after : State) : Type 0 where
  pub callee : Activation Value
  pub activations : after.activations ≡ callee ∷ before.activations
  pub procedure_called : callee.procedure ≡ Some procedure
  pub formal : take 1 callee.places ≡ Within o place ∷ []
  pub others : AreOfKinds (drop 1 body.variables) (drop 1 callee.places)
  pub operands : callee.operands ≡ []
  pub masters : after.masters ≡ record { number = before.next; items = [] } ∷ before.masters
  pub next : after.next ≡ before.next + 1
  pub control : after.control ≡ frame.Elaborates body.declarations body.statements body.handlers ∷ frame.Returns [] [] ∷ behind
  pub mode : after.mode ≡ Running
  pub input : after.input ≡ before.input
  pub allocated : after.allocated ≡ before.allocated
  pub born : after.born ≡ before.born

-- A part begins.

-- The operation that begins a part is called before the part has its value (7.6): with the part where it lies in its object. Nothing is shown then.
abbrev pub OperationsAreCalled : Type 0
OperationsAreCalled =
    (program : Program) (by : Birth) (done : List Part) (tasks : List Task) (of part : ℕ) (o : Id) (object : Object) (state : PartState)
    (procedure : ProcedureNo) (body : BodyForm) (outer : List (Frame Value)) (before : State)
    → ComesToPart (begins by done) tasks of part o object state outer before
    → BeginsBy by (operations_of program.types.items of) (Some procedure) → slice_get (body_forms program) procedure.0 ≡ Some body
    → ComesTo program before (λ after. (after.heap ≡ before.heap)
    × IsCalled procedure.0 body o (record { component = state.first; part = part }) (frame.Awaits (Names o) by done of part (performed tasks) ∷ outer) before after)

-- A part has come to have its value (7.6), under the next trace number; it is one more of those of its object that have begun, and the others come.
pub record HasBegun (by : Birth) (done : List Part) (tasks : List Task) (of part : ℕ) (o : Id) (object : Object) (state : PartState)
    (outer : List (Frame Value)) (before after : State) : Type 0 where
  pub heap : OneChanges before.heap after.heap o (with_state part (record state { alive = true; number = counted before.born }) object)
  pub rest :
      after ≡ record before {
        heap = after.heap;
        born = counted before.born;
        control = treating (Names o) (begins by (record { of = of; number = part } ∷ done)) tasks outer;
      }

-- Where the body of that operation has ended, the part has its value, and that is shown.
abbrev pub AwaitedPartsAreBorn : Type 0
AwaitedPartsAreBorn =
    (program : Program) (by : Birth) (done : List Part) (tasks : List Task) (of part : ℕ) (o : Id) (object : Object) (state : PartState)
    (outer : List (Frame Value)) (before : State)
    → before.mode ≡ Running → before.control ≡ frame.Awaits (Names o) by done of part tasks ∷ outer → HasPart before.heap o object part state
    → Makes program before (Born (Names o) part state.turn of (counted before.born) by) (HasBegun by done tasks of part o object state outer before)

-- Where a type inherits the operation, the part has its value at once.
abbrev pub PlainPartsAreBorn : Type 0
PlainPartsAreBorn =
    (program : Program) (by : Birth) (done : List Part) (tasks : List Task) (of part : ℕ) (o : Id) (object : Object) (state : PartState)
    (outer : List (Frame Value)) (before : State)
    → ComesToPart (begins by done) tasks of part o object state outer before → BeginsBy by (operations_of program.types.items of) None
    → Makes program before (Born (Names o) part state.turn of (counted before.born) by) (HasBegun by done (performed tasks) of part o object state outer before)

-- What comes next is the operation of a part of an object, or that its value begins.
pub data ComesToPartOf (o : Id) : List (Frame Value) → Type 0 where
  operation :
      {treatment : Treatment} {tasks : List Task} {of part : ℕ} {outer : List (Frame Value)} → task_next tasks ≡ Perform of part
      → ComesToPartOf o (frame.Treats (Names o) treatment tasks ∷ outer)
  value :
      {by : Birth} {done : List Part} {of part : ℕ} {tasks : List Task} {outer : List (Frame Value)}
      → ComesToPartOf o (frame.Awaits (Names o) by done of part tasks ∷ outer)

-- No part of an object that is gone begins or ends: that is erroneous, and the run ends there.
abbrev pub GoneObjectsAreNotTreated : Type 0
GoneObjectsAreNotTreated =
    (program : Program) (o : Id) (object : Object) (before : State)
    → before.mode ≡ Running → ComesToPartOf o before.control → object_at before.heap o ≡ Some object → object.stage ≡ Gone
    → Halts program before (Erroneous FinalizesTwice)

-- A part ends.

-- The value of a part has ended (7.6.1).
abbrev pub HasEnded : (part : ℕ) → Id → Object → PartState → (before after : State) → Type 0
HasEnded part o object state before after =
    OneChanges before.heap after.heap o (with_state part (record state { alive = false; turn = suc state.turn }) object)

-- Finalize is called with a part that has a value (7.6.1): that is shown as it begins, and the part has no value from then on. No exception passes what stands
-- behind it.
abbrev pub FinalizeIsCalled : Type 0
FinalizeIsCalled =
    (program : Program) (cause : Cause) (tasks : List Task) (of part : ℕ) (o : Id) (object : Object) (state : PartState)
    (procedure : ProcedureNo) (body : BodyForm) (outer : List (Frame Value)) (before : State)
    → ComesToPart (ends cause) tasks of part o object state outer before → state.alive ≡ true
    → (operations_of program.types.items of).finalize ≡ Some procedure → slice_get (body_forms program) procedure.0 ≡ Some body
    → Makes program before (Finalized (Names o) part state.turn of state.number cause) (λ after. HasEnded part o object state before after
    × IsCalled procedure.0 body o (record { component = state.first; part = part })
    (frame.Confines ∷ treating (Names o) (ends cause) (performed tasks) outer) before after)

-- Where its body has ended, what is left of the object comes.
abbrev pub FinalizesEnd : Type 0
FinalizesEnd =
    (program : Program) (outer : List (Frame Value)) (before : State)
    → before.mode ≡ Running → before.control ≡ frame.Confines ∷ outer
    → ComesTo program before (λ after. after ≡ record before { control = outer })

-- Where a type inherits Finalize, its values just end.
abbrev pub NoFinalizeIsCalled : Type 0
NoFinalizeIsCalled =
    (program : Program) (cause : Cause) (tasks : List Task) (of part : ℕ) (o : Id) (object : Object) (state : PartState) (outer : List (Frame Value))
    (before : State)
    → ComesToPart (ends cause) tasks of part o object state outer before → state.alive ≡ true → (operations_of program.types.items of).finalize ≡ None
    → Makes program before (Finalized (Names o) part state.turn of state.number cause) (λ after. HasEnded part o object state before after
    × (after ≡ record before { heap = after.heap; control = treating (Names o) (ends cause) (performed tasks) outer }))

-- A value that has ended is not finalized once more: that is erroneous, and the run ends there.
abbrev pub EndedValuesAreNotFinalized : Type 0
EndedValuesAreNotFinalized =
    (program : Program) (cause : Cause) (tasks : List Task) (of part : ℕ) (o : Id) (object : Object) (state : PartState) (outer : List (Frame Value))
    (before : State)
    → ComesToPart (ends cause) tasks of part o object state outer before → state.alive ≡ false → Halts program before (Erroneous FinalizesTwice)

-- An exception comes out of an operation.

-- What an exception that comes out of an Initialize leaves to do (7.6.1): the object has left its collection; its parts that have begun are finalized, newest
-- first, and not the part that failed; the object ceases to exist, its words go back to its own pool, and then the exception goes on. What pending forms have
-- computed is dropped.
pub record IsUndone (e : Exception) (done : List Part) (o : Id) (object : Object) (outer : List (Frame Value)) (before after : State) : Type 0 where
  pub heap : OneChanges before.heap after.heap o (record object { listed = false })
  pub rest :
      after ≡ record before {
        heap = after.heap;
        mode = Running;
        next = suc before.next;
        activations = with_operands [] before.activations;
        control = treating (Names o) (ends (Undoing before.next)) (map (λ p. performs p.of p.number) done)
            (frame.Ends (Names o) ∷ frame.GivesBack (Names o) (Undoing before.next) object.cell.home.pool ∷ frame.Resumes (Raising e) ∷ outer);
      }

-- So it is in each step that an exception makes out of an Initialize.
abbrev pub FailedInitializesAreUndone : Type 0
FailedInitializesAreUndone =
    (program : Program) (e : Exception) (done : List Part) (tasks : List Task) (of part : ℕ) (o : Id) (object : Object) (outer : List (Frame Value))
    (before : State)
    → before.mode ≡ Raising e → before.control ≡ frame.Awaits (Names o) Creation done of part tasks ∷ outer → object_at before.heap o ≡ Some object
    → (Exists object → ComesTo program before (IsUndone e done o object outer before))
    × (object.stage ≡ Gone → Halts program before (Erroneous EndsTwice))

-- The object ceases to exist (13.11.2), once.
abbrev pub ObjectsEnd : Type 0
ObjectsEnd =
    (program : Program) (o : Id) (object : Object) (outer : List (Frame Value)) (before : State)
    → before.mode ≡ Running → before.control ≡ frame.Ends (Names o) ∷ outer → object_at before.heap o ≡ Some object
    → (Exists object → ComesTo program before (λ after. OneChanges before.heap after.heap o (record object { stage = Gone; listed = false })
    × (after ≡ record before { heap = after.heap; control = outer })))
    × (object.stage ≡ Gone → Halts program before (Erroneous EndsTwice))

-- Its words go back, once, and to the pool that they are from (13.11.2).
abbrev pub WordsGoBack : Type 0
WordsGoBack =
    (program : Program) (cause : Cause) (pool : Option ℕ) (o : Id) (object : Object) (outer : List (Frame Value)) (before : State)
    → before.mode ≡ Running → before.control ≡ frame.GivesBack (Names o) cause pool ∷ outer → object_at before.heap o ≡ Some object
    → (object.out ≡ true → pool ≡ object.cell.home.pool
    → Makes program before (Back (Names o) object.cell.access object.cell.number pool object.cell.home.subpool cause)
    (λ after. OneChanges before.heap after.heap o (record object { out = false }) × (after ≡ record before { heap = after.heap; control = outer })))
    × (object.out ≡ true → pool ≢ object.cell.home.pool → Halts program before (Erroneous GivesElsewhere))
    × (object.out ≡ false → Halts program before (Erroneous EndsTwice))

-- Then the exception goes on.
abbrev pub ExceptionsGoOn : Type 0
ExceptionsGoOn =
    (program : Program) (e : Exception) (outer : List (Frame Value)) (before : State)
    → before.mode ≡ Running → before.control ≡ frame.Resumes (Raising e) ∷ outer
    → ComesTo program before (λ after. after ≡ record before { mode = Raising e; control = outer })

-- What stands behind the body of an Adjust or of a Finalize.
pub data IsBehindOperation : Frame Value → Type 0 where
  of_copy : {v : Value} {done : List Part} {of part : ℕ} {tasks : List Task} → IsBehindOperation (frame.Awaits v Copy done of part tasks)
  of_assignment :
      {v : Value} {number : ℕ} {done : List Part} {of part : ℕ} {tasks : List Task}
      → IsBehindOperation (frame.Awaits v (Adjustment number) done of part tasks)
  of_finalize : IsBehindOperation frame.Confines

-- No exception comes out of an Adjust or a Finalize (7.6.1): where one would, the run ends.
abbrev pub NothingEscapes : Type 0
NothingEscapes =
    (program : Program) (e : Exception) (f : Frame Value) (outer : List (Frame Value)) (before : State)
    → IsBehindOperation f → before.mode ≡ Raising e → before.control ≡ f ∷ outer → Halts program before (Escaped e)

-- An object is freed.

-- A Free comes next of the object that a variable names, or a component of an object that is found (13.11.2): it shows this, clears that by this frame, and
-- then this is left to do, by these activations.
pub data ComesToFree (access : ℕ) (o : Id) (before : State) : Event → Frame Value → List (Frame Value) → List (Activation Value) → Type 0 where
  of_variable :
      (path : PathForm) (later : StmtsForm) (outer : List (Frame Value)) (running : Activation Value) (suspended : List (Activation Value))
      → before.mode ≡ Running → before.control ≡ frame.Does (a_stmt (frees access path) later) ∷ outer → before.activations ≡ running ∷ suspended
      → path.selectors ≡ [] → slice_get running.places path.root ≡ Some (Names o)
      → ComesToFree access o before Quiet (frame.Clears path.root) (frame.Does later ∷ outer) before.activations
  of_component :
      (p : Id) (holder : Object) (c : ℕ) (outer : List (Frame Value)) (procedure : Option ℕ) (places pending : List Value) (suspended : List (Activation Value))
      → before.mode ≡ Running → before.control ≡ frame.FreesIn access c ∷ outer
      → before.activations ≡ record { procedure = procedure; places = places; operands = Names p ∷ pending } ∷ suspended
      → object_at before.heap p ≡ Some holder → Exists holder → slice_get holder.cell.values c ≡ Some (Names o)
      → ComesToFree access o before (Followed (Names p)) (frame.ClearsIn (Names p) c) outer
      (record { procedure = procedure; places = places; operands = pending } ∷ suspended)

-- One of its controlled parts has no value, or it has left its collection: it is gone, or under way to that.
abbrev pub IsNotWhole : Object → Type 0
IsNotWhole object = (object.listed ≡ false) ⊎ ((part : ℕ) × (state : PartState) × (slice_get object.cell.parts part ≡ Some state) × (state.alive ≡ false))

-- A Free of such an object is erroneous at once (13.11.2): it would finalize a value once more, or, where there is none, end the object once more.
abbrev pub FreesOnce : Type 0
FreesOnce =
    (program : Program) (access : ℕ) (o : Id) (object : Object) (shown : Event) (clears : Frame Value) (behind : List (Frame Value))
    (activations : List (Activation Value)) (before : State)
    → ComesToFree access o before shown clears behind activations → object_at before.heap o ≡ Some object → IsNotWhole object
    → (parts_held program.types.items access ≡ 0 → Halts program before (Erroneous EndsTwice))
    × (0 < parts_held program.types.items access → Halts program before (Erroneous FinalizesTwice))

-- So is one of an object that is not from the pool of the access type, or from none.
abbrev pub FreesToItsPool : Type 0
FreesToItsPool =
    (program : Program) (access : ℕ) (o : Id) (object : Object) (shown : Event) (clears : Frame Value) (behind : List (Frame Value))
    (activations : List (Activation Value)) (before : State)
    → ComesToFree access o before shown clears behind activations → object_at before.heap o ≡ Some object → (IsNotWhole object → ⊥)
    → (object.cell.home.pool ≡ Some (pool_freed_to (home_of access before.masters)) → ⊥)
    → Halts program before (Erroneous GivesElsewhere)

-- Any other object leaves its collection as it is freed; then all of its parts are finalized, it ceases to exist, its words go back, and what named it becomes
-- null (7.6.1, 13.11.2).
abbrev pub FreesFinalize : Type 0
FreesFinalize =
    (program : Program) (access : ℕ) (o : Id) (object : Object) (shown : Event) (clears : Frame Value) (behind : List (Frame Value))
    (activations : List (Activation Value)) (before : State)
    → ComesToFree access o before shown clears behind activations → object_at before.heap o ≡ Some object → (IsNotWhole object → ⊥)
    → object.cell.home.pool ≡ Some (pool_freed_to (home_of access before.masters))
    → Makes program before shown (λ after. OneChanges before.heap after.heap o (record object { listed = false })
    × (after ≡ record before {
      heap = after.heap;
      next = suc before.next;
      activations = activations;
      control = treating (Names o) (ends (Freeing before.next)) (all_tasks program.types.items object.cell.access WholeFirst)
          (frame.Ends (Names o) ∷ frame.GivesBack (Names o) (Freeing before.next) object.cell.home.pool ∷ clears ∷ behind);
    }))
