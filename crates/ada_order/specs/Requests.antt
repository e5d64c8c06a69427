-- What is asked of the pools, and told to them, at each step of each program from any state: each request is for one object.

use Rattle.std.specs.Prelude.{◌≡◌, ◌≢◌, ℕ, Bool, true, false, if◌then◌else◌, List, [], ◌∷◌, ◌++◌, length, Option, Some, None}
use Rattle.std.specs.List.{slice_set}
use Rattle.ada_program.specs.declared.program.Program.{Program}
use Rattle.ada_program.specs.declared.program.Exception.TheVariants.{StorageError}
use Rattle.ada_program.specs.declared.program.TypeDefinition.{TypeDefinition}
use Rattle.ada_program.specs.Typed.{words_of}
use Rattle.ada_program.specs.ProgramForm.{body_forms}
use Rattle.ada_meaning.specs.declared.event.Cause.{Cause}
use Rattle.ada_meaning.specs.declared.state.Id.{Id}
use Rattle.ada_meaning.specs.declared.state.Mode.TheVariants.{Raising}
use Rattle.ada_meaning.specs.declared.state.Value.{Value}
use Rattle.ada_meaning.specs.declared.state.Value.TheVariants.{Names}
use Rattle.ada_meaning.specs.Event.{Back, Quiet, Request, Allocate, GiveBack, New, Gone}
use Rattle.ada_meaning.specs.Heap.{Cell}
use Rattle.ada_meaning.specs.State.{Master, Destination, home_of}
use Rattle.ada_meaning.specs.Step.{newest, halts, moves, tells, asks, picks}
use Rattle.ada_meaning.specs.Named.{Object, State, Next, named, object_at, new_object, returned, next}
use Rattle.ada_meaning.specs.Run.{Event}

-- The name that the next object gets: none has had it yet.
abbrev pub next_name : List Object → Id
next_name objects = record { 0 = length objects }

-- The pool that the words of an object are from, as long as they are out (13.11): none where it is declared.
abbrev pub lent_from : Option Object → Option ℕ
lent_from None = None
lent_from (Some object) = if object.out then object.cell.home.pool else None

-- Words of the same objects are out as before, each from the same pool.
abbrev pub SameAreLent : (before after : List Object) → Type 0
SameAreLent before after = (o : Id) → lent_from (object_at after o) ≡ lent_from (object_at before o)

-- A request for storage is for the next object (4.8, 13.11).
pub record AsksForObject (types : List TypeDefinition) (masters : List Master) (before : List Object) (request : Request Value) (answered : Bool → State) : Type 0 where
  -- the object, and the newest open collection of its access type, of whose pool it is
  pub cell : Cell Value
  pub home : Destination
  pub is_open : home_of cell.access masters ≡ Some home
  pub housed : cell.home ≡ record { item = home.item; pool = Some home.pool; subpool = None }
  -- that pool is asked, for as many words as such an object has components, under the name that the object gets
  pub asked : request ≡ Allocate home.pool 0 (words_of types cell.access) (Names (next_name before))
  -- where it is granted, there is that object and nothing else is new: it exists, is in its collection, and its words are out
  pub granted : (answered true).heap ≡ before ++ new_object cell ∷ []
  -- and the newest operand, which is the value of the allocator, names it
  pub designated : (answered true).activations ≢ [] → newest named (answered true) ≡ Names (next_name before)
  -- where it is refused, no object is new, and Storage_Error is raised (13.11)
  pub refused : (answered false).heap ≡ before
  pub raised : (answered false).mode ≡ Raising StorageError

-- The words of an object go back, which an event shows: they were out, from this pool, or from none where it is declared; now they aren't, and nothing else changes (13.11.2).
pub record GoesBack (before : List Object) (o : Id) (pool : Option ℕ) (event : Event) (after : List Object) : Type 0 where
  pub object : Object
  pub cause : Cause
  pub there : object_at before o ≡ Some object
  pub out : object.out ≡ true
  pub from : object.cell.home.pool ≡ pool
  pub shown : event ≡ Back (Names o) object.cell.access object.cell.number pool object.cell.home.subpool cause
  pub back : after ≡ slice_set before o.0 (returned object)

-- What is told: words go back to a pool, and the event shows the same object; or a pool begins or is gone, and of the objects nothing changes (13.11, 13.11.2).
abbrev pub IsToldOfObject : (before : List Object) → Request Value → Event → (after : List Object) → Type 0
IsToldOfObject before (GiveBack (Names o)) event after = (pool : ℕ) × GoesBack before o (Some pool) event after
IsToldOfObject before (New pool declaration) event after = (event ≡ Quiet) × (after ≡ before)
IsToldOfObject before (Gone pool) event after = (event ≡ Quiet) × (after ≡ before)
IsToldOfObject before request event after = ⊥

-- Where no pool is told, an event shows the words of none but declared objects to go back.
abbrev pub GoesBackUntold : (before : List Object) → Event → (after : List Object) → Type 0
GoesBackUntold before (Back object access number pool subpool cause) after = (o : Id) × GoesBack before o None (Back object access number pool subpool cause) after
GoesBackUntold before event after = Unit {0}

-- What comes next is so. Where no pool is asked or told, no words go out from one and none go back.
abbrev pub RequestsFit : List TypeDefinition → List Master → (before : List Object) → Next → Type 0
RequestsFit types masters before (halts halt) = Unit {0}
RequestsFit types masters before (moves event after) = GoesBackUntold before event after.heap × SameAreLent before after.heap
RequestsFit types masters before (tells request event after) = IsToldOfObject before request event after.heap
RequestsFit types masters before (asks request answered) = AsksForObject types masters before request answered
RequestsFit types masters before (picks n taken) = (i : ℕ) → SameAreLent before (taken i).heap

-- Whatever state a program is in: words go out from a pool for the object for which it was asked, and words of an object go back to its pool where that is told (4.8, 13.11, 13.11.2).
abbrev pub RequestsAreForObjects : Type 0
RequestsAreForObjects = (program : Program) (s : State) → RequestsFit program.types.items s.masters s.heap (next program.types.items (body_forms program) s)
