-- When the controlled parts of an object are treated (7.6, 7.6.1): they begin as the object is created, one component after another, and end as its master is
-- left. Of every program.

use Rattle.std.specs.Prelude.{◌≡◌, ℕ, ◌<◌, true, false, List, [], ◌∷◌, ◌++◌, length, map, Some, None}
use Rattle.std.specs.List.{slice_get}
use Rattle.ada_parts.specs.declared.tasks.Direction.TheVariants.{PartsFirst, WholeFirst}
use Rattle.ada_parts.specs.declared.tasks.Next.TheVariants.{Pick}
use Rattle.ada_parts.specs.Task.{Task, next as task_next}
use Rattle.ada_program.specs.declared.program.Program.{Program}
use Rattle.ada_program.specs.declared.program.TypeDefinition.{TypeDefinition}
use Rattle.ada_program.specs.Controlled.{number_reached, shapes_of, part_firsts}
use Rattle.ada_program.specs.Form.{StmtsForm, HandlersForm, DeclarationForm, declares_record}
use Rattle.ada_meaning.specs.declared.event.Birth.{Birth}
use Rattle.ada_meaning.specs.declared.event.Birth.TheVariants.{Creation, Copy}
use Rattle.ada_meaning.specs.declared.event.Cause.TheVariants.{Leaving}
use Rattle.ada_meaning.specs.declared.state.Id.{Id}
use Rattle.ada_meaning.specs.declared.state.Mode.{Mode}
use Rattle.ada_meaning.specs.declared.state.Mode.TheVariants.{Running}
use Rattle.ada_meaning.specs.declared.state.Stage.TheVariants.{Existing}
use Rattle.ada_meaning.specs.declared.state.Value.{Value}
use Rattle.ada_meaning.specs.declared.state.Value.TheVariants.{Names}
use Rattle.ada_meaning.specs.Event.{Quiet}
use Rattle.ada_meaning.specs.Frame.{Treatment, Frame, begins, ends}
use Rattle.ada_meaning.specs.Frame as frame
use Rattle.ada_meaning.specs.State.{type_housed, pool_housed, Item, Master}
use Rattle.ada_meaning.specs.Step.{all_tasks, direction_of, picked_task, treating}
use Rattle.ada_meaning.specs.Named.{Object, State, object_at, members_of}
use Rattle.ada_meaning.specs.Run.{Choice, Event, settled, grants, takes, Step}
use Rattle.ada_meaning.specs.Operations.{OneChanges, Exists}

-- With this first of what is left to do, and with this answer, an object is created: by an allocator (4.8), whose storage is granted, or by a declaration
-- (3.3.1), whose object is a copy where its components have been computed. This is left then.
pub data Creates (access : ℕ) : Birth → (control : List (Frame Value)) → Choice → (left : List (Frame Value)) → Type 0 where
  by_allocator : {count : ℕ} {outer : List (Frame Value)} → Creates access Creation (frame.Creates access count ∷ outer) (grants true) outer
  by_declaration :
      {x : ℕ} {ds : List DeclarationForm} {fs : StmtsForm} {hs : HandlersForm} {outer : List (Frame Value)}
      → Creates access Creation (frame.Elaborates (declares_record x access None ∷ ds) fs hs ∷ outer) settled (frame.Elaborates ds fs hs ∷ outer)
  by_copy : {x : ℕ} {outer : List (Frame Value)} → Creates access Copy (frame.DeclaresRecord x access ∷ outer) settled outer

-- An object of a type has come to be. Its controlled parts are those of its type; none has a value yet, and they are initialized next, or adjusted, where it
-- is a copy.
pub record BeginsObject (types : List TypeDefinition) (access : ℕ) (by : Birth) (behind : List (Frame Value)) (before after : State) : Type 0 where
  pub object : Object
  pub heap : after.heap ≡ before.heap ++ object ∷ []
  pub type : object.cell.access ≡ access
  pub stage : object.stage ≡ Existing
  pub listed : object.listed ≡ true
  pub out : object.out ≡ true
  pub parts :
      object.cell.parts ≡ map (λ c. record { alive = false; turn = 0; number = 0; first = c }) (part_firsts types (number_reached types access))
  pub control : after.control ≡ treating (Names (record { 0 = length before.heap })) (begins by []) (all_tasks types access PartsFirst) behind
  pub mode : after.mode ≡ Running

-- So each object begins that is created.
abbrev pub ObjectsBegin : Type 0
ObjectsBegin =
    (program : Program) (access : ℕ) (by : Birth) (choice : Choice) (left : List (Frame Value)) (before after : State) (event : Event)
    → before.mode ≡ Running → Creates access by before.control choice left → Step program before choice event after
    → (event ≡ Quiet) × BeginsObject program.types.items access by left before after

-- Where components are open, one of them is picked, and its treatment comes first; what has begun of the object is kept in mind.
abbrev pub ComponentsArePicked : Type 0
ComponentsArePicked =
    (program : Program) (v : Value) (treatment : Treatment) (tasks : List Task) (count i : ℕ) (outer : List (Frame Value)) (before after : State) (event : Event)
    → before.mode ≡ Running → before.control ≡ frame.Treats v treatment tasks ∷ outer → task_next tasks ≡ Pick count
    → Step program before (takes i) event after
    → (i < count) × (event ≡ Quiet)
    × (after ≡ record before {
      control = treating v treatment (picked_task (shapes_of program.types.items) (direction_of treatment) tasks i) outer;
    })

-- At the leaving of a master, a member of a collection that it owns leaves the collection, or its record object does: all of its parts are finalized, it
-- ceases to exist, and its words go back (7.6.1).
abbrev pub MembersAreFinalized : Type 0
MembersAreFinalized =
    (program : Program) (mode : Mode) (m : ℕ) (item : Item) (items : List Item) (ms : List Master) (access i : ℕ) (o : Id) (object : Object)
    (outer : List (Frame Value)) (before after : State) (event : Event)
    → before.mode ≡ Running → before.control ≡ frame.Leaves mode ∷ outer → before.masters ≡ record { number = m; items = item ∷ items } ∷ ms
    → type_housed item.owned ≡ Some access → slice_get (members_of before.heap item.number) i ≡ Some o → object_at before.heap o ≡ Some object
    → Exists object → Step program before (takes i) event after
    → (event ≡ Quiet) × OneChanges before.heap after.heap o (record object { listed = false })
    × (after ≡ record before {
      heap = after.heap;
      control = treating (Names o) (ends (Leaving m item.number)) (all_tasks program.types.items object.cell.access WholeFirst)
          (frame.Ends (Names o) ∷ frame.GivesBack (Names o) (Leaving m item.number) (pool_housed item.owned) ∷ frame.Leaves mode ∷ outer);
    })

-- What is to be done for an object comes before what is behind it; where nothing is, that comes at once.
abbrev pub TreatmentsComeFirst : Type 0
TreatmentsComeFirst =
    (v : Value) (treatment : Treatment) (task : Task) (tasks : List Task) (behind : List (Frame Value))
    → (treating v treatment [] behind ≡ behind) × (treating v treatment (task ∷ tasks) behind ≡ frame.Treats v treatment (task ∷ tasks) ∷ behind)
