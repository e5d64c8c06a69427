-- A program whose types override operations, and a run of it in which an exception comes out of an Initialize: its states meet the premises of the laws.

use Rattle.std.specs.Prelude.{◌≡◌, ℕ, ◌<◌, Bool, true, false, List, [], ◌∷◌, Some, None}
use Rattle.std.specs.List.{slice_get, filter}
use Rattle.ada_parts.specs.Part.{Part}
use Rattle.ada_parts.specs.Task.{Task}
use Rattle.ada_program.specs.declared.program.Exception.{Exception}
use Rattle.ada_program.specs.declared.program.Exception.TheVariants.{ConstraintError}
use Rattle.ada_program.specs.declared.program.Finalization.{Finalization}
use Rattle.ada_program.specs.declared.program.Operations.{Operations}
use Rattle.ada_program.specs.declared.program.PartKind.TheVariants as part
use Rattle.ada_program.specs.declared.program.ProcedureNo.{ProcedureNo}
use Rattle.ada_program.specs.declared.program.Program.{Program}
use Rattle.ada_program.specs.Controlled.{number_of, operations_of, part_firsts}
use Rattle.ada_program.specs.ProgramForm.{PartForm, BodyForm, body_forms, program_form}
use Rattle.ada_program.specs.WellFormed.{IsWellFormed}
use Rattle.ada_meaning.specs.declared.event.Birth.{Birth}
use Rattle.ada_meaning.specs.declared.event.Birth.TheVariants.{Creation}
use Rattle.ada_meaning.specs.declared.event.Cause.{Cause}
use Rattle.ada_meaning.specs.declared.event.Cause.TheVariants.{Undoing}
use Rattle.ada_meaning.specs.declared.event.Halt.TheVariants.{Unhandled}
use Rattle.ada_meaning.specs.declared.state.Id.{Id}
use Rattle.ada_meaning.specs.declared.state.Mode.TheVariants.{Running, Raising}
use Rattle.ada_meaning.specs.declared.state.Stage.TheVariants.{Gone}
use Rattle.ada_meaning.specs.declared.state.Value.{Value}
use Rattle.ada_meaning.specs.declared.state.Value.TheVariants.{Names}
use Rattle.ada_meaning.specs.Event.{Born, Finalized, Back, Left, Quiet}
use Rattle.ada_meaning.specs.Frame.{Frame, begins, ends}
use Rattle.ada_meaning.specs.Frame as frame
use Rattle.ada_meaning.specs.Heap.{PartState}
use Rattle.ada_meaning.specs.State.{Activation, home_of, pool_freed_to}
use Rattle.ada_meaning.specs.Step.{parts_held}
use Rattle.ada_meaning.specs.Named.{Object, State, object_at}
use Rattle.ada_meaning.specs.Run.{Event, Choice, Step, Halts, first_state}
use Rattle.ada_meaning.specs.Operations.{Exists, HasPart, ComesToPart, BeginsBy, ComesToPartOf, IsBehindOperation, ComesToFree, IsNotWhole}
use Rattle.ada_meaning.specs.Places.{Declares}

-- The laws whose premises a state of a run meets.
pub data Premise : Type 0 where
  operation_is_called : Premise
  awaited_part_is_born : Premise
  plain_part_is_born : Premise
  failed_initialize_is_undone : Premise
  finalize_is_called : Premise
  finalize_ends : Premise
  no_finalize_is_called : Premise
  object_ends : Premise
  words_go_back : Premise
  exception_goes_on : Premise
  gone_object_is_not_treated : Premise
  ended_value_is_not_finalized : Premise
  nothing_escapes : Premise
  frees_once : Premise
  frees_to_its_pool : Premise
  frees_finalize : Premise

-- A state meets the premise of such a law.
abbrev pub Meets : Program → Premise → State → Type 0
Meets program operation_is_called s =
    (by : Birth) × (done : List Part) × (tasks : List Task) × (of : ℕ) × (part : ℕ) × (o : Id) × (object : Object) × (state : PartState)
    × (procedure : ProcedureNo) × (body : BodyForm) × (outer : List (Frame Value)) × ComesToPart (begins by done) tasks of part o object state outer s
    × BeginsBy by (operations_of program.types.items of) (Some procedure) × (slice_get (body_forms program) procedure.0 ≡ Some body)
Meets program awaited_part_is_born s =
    (by : Birth) × (done : List Part) × (tasks : List Task) × (of : ℕ) × (part : ℕ) × (o : Id) × (object : Object) × (state : PartState)
    × (outer : List (Frame Value)) × (s.mode ≡ Running) × (s.control ≡ frame.Awaits (Names o) by done of part tasks ∷ outer)
    × HasPart s.heap o object part state
Meets program plain_part_is_born s =
    (by : Birth) × (done : List Part) × (tasks : List Task) × (of : ℕ) × (part : ℕ) × (o : Id) × (object : Object) × (state : PartState)
    × (outer : List (Frame Value)) × ComesToPart (begins by done) tasks of part o object state outer s
    × BeginsBy by (operations_of program.types.items of) None
Meets program failed_initialize_is_undone s =
    (e : Exception) × (done : List Part) × (tasks : List Task) × (of : ℕ) × (part : ℕ) × (o : Id) × (object : Object) × (outer : List (Frame Value))
    × (s.mode ≡ Raising e) × (s.control ≡ frame.Awaits (Names o) Creation done of part tasks ∷ outer) × (object_at s.heap o ≡ Some object) × Exists object
Meets program finalize_is_called s =
    (cause : Cause) × (tasks : List Task) × (of : ℕ) × (part : ℕ) × (o : Id) × (object : Object) × (state : PartState) × (procedure : ProcedureNo)
    × (body : BodyForm) × (outer : List (Frame Value)) × ComesToPart (ends cause) tasks of part o object state outer s × (state.alive ≡ true)
    × ((operations_of program.types.items of).finalize ≡ Some procedure) × (slice_get (body_forms program) procedure.0 ≡ Some body)
Meets program finalize_ends s = (outer : List (Frame Value)) × (s.mode ≡ Running) × (s.control ≡ frame.Confines ∷ outer)
Meets program no_finalize_is_called s =
    (cause : Cause) × (tasks : List Task) × (of : ℕ) × (part : ℕ) × (o : Id) × (object : Object) × (state : PartState) × (outer : List (Frame Value))
    × ComesToPart (ends cause) tasks of part o object state outer s × (state.alive ≡ true) × ((operations_of program.types.items of).finalize ≡ None)
Meets program object_ends s =
    (o : Id) × (object : Object) × (outer : List (Frame Value)) × (s.mode ≡ Running) × (s.control ≡ frame.Ends (Names o) ∷ outer)
    × (object_at s.heap o ≡ Some object) × Exists object
Meets program words_go_back s =
    (cause : Cause) × (o : Id) × (object : Object) × (outer : List (Frame Value)) × (s.mode ≡ Running)
    × (s.control ≡ frame.GivesBack (Names o) cause object.cell.home.pool ∷ outer) × (object_at s.heap o ≡ Some object) × (object.out ≡ true)
Meets program exception_goes_on s =
    (e : Exception) × (outer : List (Frame Value)) × (s.mode ≡ Running) × (s.control ≡ frame.Resumes (Raising e) ∷ outer)
Meets program gone_object_is_not_treated s =
    (o : Id) × (object : Object) × (s.mode ≡ Running) × ComesToPartOf o s.control × (object_at s.heap o ≡ Some object) × (object.stage ≡ Gone)
Meets program ended_value_is_not_finalized s =
    (cause : Cause) × (tasks : List Task) × (of : ℕ) × (part : ℕ) × (o : Id) × (object : Object) × (state : PartState) × (outer : List (Frame Value))
    × ComesToPart (ends cause) tasks of part o object state outer s × (state.alive ≡ false)
Meets program nothing_escapes s =
    (e : Exception) × (f : Frame Value) × (outer : List (Frame Value)) × IsBehindOperation f × (s.mode ≡ Raising e) × (s.control ≡ f ∷ outer)
Meets program frees_once s =
    (access : ℕ) × (o : Id) × (object : Object) × (shown : Event) × (clears : Frame Value) × (behind : List (Frame Value))
    × (activations : List (Activation Value)) × ComesToFree access o s shown clears behind activations × (object_at s.heap o ≡ Some object)
    × IsNotWhole object × (0 < parts_held program.types.items access)
Meets program frees_to_its_pool s =
    (access : ℕ) × (o : Id) × (object : Object) × (shown : Event) × (clears : Frame Value) × (behind : List (Frame Value))
    × (activations : List (Activation Value)) × ComesToFree access o s shown clears behind activations × (object_at s.heap o ≡ Some object)
    × (IsNotWhole object → ⊥) × (object.cell.home.pool ≡ Some (pool_freed_to (home_of access s.masters)) → ⊥)
Meets program frees_finalize s =
    (access : ℕ) × (o : Id) × (object : Object) × (shown : Event) × (clears : Frame Value) × (behind : List (Frame Value))
    × (activations : List (Activation Value)) × ComesToFree access o s shown clears behind activations × (object_at s.heap o ≡ Some object)
    × (IsNotWhole object → ⊥) × (object.cell.home.pool ≡ Some (pool_freed_to (home_of access s.masters)))

-- Steps one after another, with their events, through states that meet these premises.
pub data Visits (program : Program) : State → List Premise → List Event → State → Type 0 where
  here : {s : State} → Visits program s [] [] s
  goes :
      {s last : State} {premises : List Premise} {event : Event} {events : List Event} (choice : Choice) (mid : State) → Step program s choice event mid
      → Visits program mid premises events last → Visits program s premises (event ∷ events) last
  meets :
      {s last : State} {premise : Premise} {premises : List Premise} {events : List Event} → Meets program premise s
      → Visits program s premises events last → Visits program s (premise ∷ premises) events last

-- type First is new Controlled with record V : Integer; end record; which overrides Initialize.
abbrev pub operations_first : Operations
operations_first = record { initialize = Some (record { 0 = 0 }); adjust = None; finalize = None }

-- type Second is new Controlled with null record; which overrides Finalize.
abbrev pub operations_second : Operations
operations_second = record { initialize = None; adjust = None; finalize = Some (record { 0 = 1 }) }

-- type Both is new Controlled with record A : First; B : Second; end record; which overrides Initialize.
abbrev pub operations_both : Operations
operations_both = record { initialize = Some (record { 0 = 2 }); adjust = None; finalize = None }

-- The object X.
abbrev pub object_x : Value
object_x = Names (record { 0 = 0 })

-- An event that can be seen.
abbrev pub is_seen : Event → Bool
is_seen Quiet = false
is_seen e = true

-- X.A is initialized, and X.B; then an exception comes out of the Initialize of X, and X.B and X.A are finalized, the one that has begun last first. Each body
-- is a master, that of the main procedure the last one to be left.
abbrev pub undone_events : List Event
undone_events =
    Left 1
    ∷ Born object_x 1 0 0 1 Creation
    ∷ Born object_x 2 0 1 2 Creation
    ∷ Left 2
    ∷ Finalized object_x 2 0 1 2 (Undoing 3)
    ∷ Left 4
    ∷ Finalized object_x 1 0 0 1 (Undoing 3)
    ∷ Back object_x 3 0 None None (Undoing 3)
    ∷ Left 0
    ∷ []

-- X : Both; there is a program with these types that declares it, and whose run ends with the exception that no handler takes.
abbrev pub AnInitializeIsUndone : Type 0
AnInitializeIsUndone =
    (program : Program) × (operations_of program.types.items 0 ≡ operations_first) × (operations_of program.types.items 1 ≡ operations_second)
    × (operations_of program.types.items 2 ≡ operations_both) × (part_firsts program.types.items (Some 2) ≡ 0 ∷ 0 ∷ 1 ∷ [])
    × (events : List Event) × (last : State)
    × Visits program (first_state program [])
    (operation_is_called ∷ awaited_part_is_born ∷ plain_part_is_born ∷ operation_is_called ∷ failed_initialize_is_undone ∷ finalize_is_called
    ∷ finalize_ends ∷ no_finalize_is_called ∷ object_ends ∷ words_go_back ∷ exception_goes_on ∷ []) events last
    × Halts program last (Unhandled ConstraintError) × (filter is_seen events ≡ undone_events)

-- Each of these premises is met by some state.
abbrev pub AreMet : Program → List Premise → Type 0
AreMet program [] = Unit {0}
AreMet program (premise ∷ premises) = ((s : State) × Meets program premise s) × AreMet program premises

-- So are those that this run does not meet: no run comes to most of them.
abbrev pub OthersAreMet : Type 0
OthersAreMet =
    (program : Program)
    × AreMet program
    (gone_object_is_not_treated ∷ ended_value_is_not_finalized ∷ nothing_escapes ∷ frees_once ∷ frees_to_its_pool ∷ frees_finalize ∷ [])

-- The same types without operations make a well-formed program, in which X.B begins with the second component of X, as its third controlled part.
abbrev pub APartBeginsWithAComponent : Type 0
APartBeginsWithAComponent =
    (program : Program) × (ps : List PartForm) × (f : Finalization) × (p : PartForm) × IsWellFormed (program_form program) × Declares program 2 ps f
    × (slice_get ps 2 ≡ Some p) × (p.kind ≡ part.Record (record { 0 = 1 })) × (p.first ≡ 1) × (p.part ≡ 2)
    × (number_of program.types.items (Some 1) ≡ Some 1) × (part_firsts program.types.items (Some 1) ≡ 0 ∷ [])
