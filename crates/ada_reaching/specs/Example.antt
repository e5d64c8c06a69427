-- The premise is met: a body stores a value of an access type that it shuns, while the object is there, or copies a record that holds one, or frees another
-- object that is finalized, or allocates one that is initialized, or leaves a master in which it has declared one that is finalized, or declares a copy. And it
-- is needed: one that follows such a value changes the object.

use Rattle.std.specs.Prelude.{◌≡◌, ◌≢◌, ℕ, ℤ, Bool, true, false, List, [], ◌∷◌, Some, None}
use Rattle.std.specs.List.{slice_get}
use Rattle.ada_parts.specs.Task.{Task, performs}
use Rattle.ada_program.specs.Controlled.{operations_of, procedure_number}
use Rattle.ada_program.specs.declared.program.Program.{Program}
use Rattle.ada_program.specs.ProgramForm.{BodyForm, program_form, body_forms}
use Rattle.ada_program.specs.Typed.{width_of}
use Rattle.ada_program.specs.WellFormed.{IsWellFormed}
use Rattle.ada_meaning.specs.declared.event.Birth.TheVariants.{Creation}
use Rattle.ada_meaning.specs.declared.event.Cause.TheVariants.{Leaving, Freeing}
use Rattle.ada_meaning.specs.declared.state.Id.{Id}
use Rattle.ada_meaning.specs.declared.state.Mode.TheVariants.{Running}
use Rattle.ada_meaning.specs.declared.state.Value.{Value}
use Rattle.ada_meaning.specs.declared.state.Value.TheVariants.{Names}
use Rattle.ada_meaning.specs.Event.{Finalized, Quiet}
use Rattle.ada_meaning.specs.Frame.{Frame, begins, ends}
use Rattle.ada_meaning.specs.Frame as frame
use Rattle.ada_meaning.specs.Heap.{PartState}
use Rattle.ada_meaning.specs.State.{record_object, Item, Master}
use Rattle.ada_meaning.specs.Step.{moves, older, owning, procedure_of}
use Rattle.ada_meaning.specs.Named.{Object, State, object_at, next}
use Rattle.ada_meaning.specs.Records.{component_at, IsCopied}
use Rattle.ada_meaning.specs.Run.{takes, Event, Run, Step, first_state}
use Rattle.ada_untouched.specs.Untouched.{Untouched}
use Rattle.ada_reaching.specs.Apart.{Apart}
use Rattle.ada_reaching.specs.Forms.{may_declare, body_shuns}
use Rattle.ada_reaching.specs.Reaching.{IsOfShunned, IsReaching}
use Rattle.ada_reaching.specs.Law.{AreApart, IsWithin, none_hidden}
use Rattle.ada_reaching.specs.Deeds.{AreShaped, UseNone}

-- The body of a procedure runs, and a step leads on.
pub record RunsOn (program : Program) (b : BodyForm) (s after : State) : Type 0 where
  pub procedure : ℕ
  pub runs : procedure_of s.activations ≡ Some procedure
  pub body : slice_get (program_form program).bodies procedure ≡ Some b
  pub steps : (e : Event) × (next program.types.items (body_forms program) s ≡ moves e after)

-- A body that shuns some access types takes a step, while an object of one of these is there, a ghost. What it may call is of that shape, and follows and frees
-- no value of these types by what procedures do, too.
pub record RunsBeside (program : Program) (shuns : ℕ → Bool) (apart : Apart) (ghosts unnamed : Id → Bool) (behind : List (Frame Value))
    (lower : List Master) (b : BodyForm) (s after : State) : Type 0 where
  pub are_apart : AreApart (program_form program) program.types.items shuns apart
  pub shaped : AreShaped (program_form program) program.types.items apart
  pub unused : UseNone (program_form program) shuns apart
  pub runs_on : RunsOn program b s after
  pub shuns_all : body_shuns (program_form program).types shuns apart b ≡ true
  pub reaching : IsReaching (program_form program) shuns apart ghosts unnamed behind lower s
  pub within : IsWithin behind s
  pub ghost : Id
  pub is_ghost : ghosts ghost ≡ true

-- Such a body stores the name of the ghost in a component of an object.
pub record StoresGhost (program : Program) (shuns : ℕ → Bool) (apart : Apart) (ghosts unnamed : Id → Bool) (behind : List (Frame Value))
    (lower : List Master) (b : BodyForm) (s after : State) : Type 0 where
  pub runs_beside : RunsBeside program shuns apart ghosts unnamed behind lower b s after
  pub holder : Id
  pub component : ℕ
  pub holds_other : component_at s.heap holder component ≢ Some (Names runs_beside.ghost)
  pub stores : component_at after.heap holder component ≡ Some (Names runs_beside.ghost)

-- Such a body stores it with a record that it copies as a whole, out of another object (4.3.1, 5.2): what it has read of that is about to be written. And there
-- is an unnamed ghost, too: a record object that is declared (3.3.1).
pub record CopiesRecord (program : Program) (shuns : ℕ → Bool) (apart : Apart) (ghosts unnamed : Id → Bool) (behind : List (Frame Value))
    (lower : List Master) (b : BodyForm) (s after : State) : Type 0 where
  pub stores_ghost : StoresGhost program shuns apart ghosts unnamed behind lower b s after
  pub declared : Id
  pub is_unnamed : unnamed declared ≡ true
  pub source : Id
  pub another : source ≢ stores_ghost.holder
  pub first : ℕ
  pub to : ℕ
  pub record_type : ℕ
  pub later : List (Frame Value)
  pub is_next : s.control ≡ frame.StoresRecord (Names stores_ghost.holder) to (width_of program.types.items record_type) ∷ later
  pub copied : IsCopied s.heap after.heap source stores_ghost.holder first to (width_of program.types.items record_type)

-- Such a body frees an object of another access type, which it may free (13.11.2). The type of a part of it overrides Finalize (7.6.1): the body of Finalize
-- begins, and it is one of those that may be called.
pub record FinalizesFreed (program : Program) (shuns : ℕ → Bool) (apart : Apart) (ghosts unnamed : Id → Bool) (behind : List (Frame Value))
    (lower : List Master) (b : BodyForm) (s after : State) : Type 0 where
  pub runs_beside : RunsBeside program shuns apart ghosts unnamed behind lower b s after
  pub freed : Id
  pub object : Object
  pub is_there : object_at s.heap freed ≡ Some object
  pub may_be_freed : apart.ends object.cell.access ≡ true
  pub number : ℕ
  pub of : ℕ
  pub part : ℕ
  pub tasks : List Task
  pub later : List (Frame Value)
  pub is_next : s.control ≡ frame.Treats (Names freed) (ends (Freeing number)) (performs of part ∷ tasks) ∷ later
  pub finalize : ℕ
  pub overrides : procedure_number (operations_of program.types.items of).finalize ≡ Some finalize
  pub may_be_called : apart.calls finalize ≡ true
  pub begins : procedure_of after.activations ≡ Some finalize
  pub waits : older after.activations ≡ s.activations

-- Such a body allocates an object of another access type by default, as it may (4.8). The type of a part of it overrides Initialize (7.6): the body of
-- Initialize begins, and it is one of those that may be called.
pub record InitializesNew (program : Program) (shuns : ℕ → Bool) (apart : Apart) (ghosts unnamed : Id → Bool) (behind : List (Frame Value))
    (lower : List Master) (b : BodyForm) (s after : State) : Type 0 where
  pub runs_beside : RunsBeside program shuns apart ghosts unnamed behind lower b s after
  pub created : Id
  pub object : Object
  pub is_there : object_at s.heap created ≡ Some object
  pub may_be_allocated : apart.starts object.cell.access ≡ true
  pub of : ℕ
  pub part : ℕ
  pub tasks : List Task
  pub later : List (Frame Value)
  pub is_next : s.control ≡ frame.Treats (Names created) (begins Creation []) (performs of part ∷ tasks) ∷ later
  pub initialize : ℕ
  pub overrides : procedure_number (operations_of program.types.items of).initialize ≡ Some initialize
  pub may_be_called : apart.calls initialize ≡ true
  pub runs : procedure_of after.activations ≡ Some initialize
  pub waits : older after.activations ≡ s.activations

-- Such a body leaves a master of its own, whose newest item is a record object that it has declared by default, as it may (3.3.1, 7.6.1): that has been taken
-- out, and is no ghost. The type of a part of it overrides Finalize: the value of the part is finalized since the master is left, and the body of Finalize
-- begins, which is one of those that may be called. The premise was met as the object was taken out, too.
pub record FinalizesDeclared (program : Program) (shuns : ℕ → Bool) (apart : Apart) (ghosts unnamed : Id → Bool) (behind : List (Frame Value))
    (lower : List Master) (b : BodyForm) (before s after : State) : Type 0 where
  pub runs_beside : RunsBeside program shuns apart ghosts unnamed behind lower b s after
  pub declared : Id
  pub object : Object
  pub is_there : object_at s.heap declared ≡ Some object
  pub is_no_ghost : ghosts declared ≡ false
  pub may_be_declared : may_declare apart object.cell.access ≡ true
  pub master : Master
  pub outer : List Master
  pub innermost : runs_beside.reaching.upper ≡ master ∷ outer
  pub item : Item
  pub items : List Item
  pub newest : master.items ≡ item ∷ items
  pub owns : item.owned ≡ record_object object.cell.access
  pub home : object.cell.home.item ≡ item.number
  pub of : ℕ
  pub part : ℕ
  pub tasks : List Task
  pub later : List (Frame Value)
  pub is_next :
      s.control
      ≡ frame.Treats (Names declared) (ends (Leaving master.number item.number)) (performs of part ∷ tasks) ∷ frame.Ends (Names declared)
      ∷ frame.GivesBack (Names declared) (Leaving master.number item.number) None ∷ frame.Leaves Running ∷ later
  pub value : PartState
  pub is_value : slice_get object.cell.parts part ≡ Some value
  pub is_alive : value.alive ≡ true
  pub tells : runs_beside.runs_on.steps.0 ≡ Finalized (Names declared) part value.turn of value.number (Leaving master.number item.number)
  pub finalize : ℕ
  pub overrides : procedure_number (operations_of program.types.items of).finalize ≡ Some finalize
  pub may_be_called : apart.calls finalize ≡ true
  pub begins : procedure_of after.activations ≡ Some finalize
  pub waits : older after.activations ≡ s.activations
  pub leaves : before.control ≡ frame.Leaves Running ∷ later
  pub was_reaching : IsReaching (program_form program) shuns apart ghosts unnamed behind lower before
  pub was_within : IsWithin behind before

-- Such a body declares a record object as a copy (3.3.1, 4.3.1), which has no controlled parts, of a type of which none may be declared by default: it is there
-- next, a component of it names the ghost, and a master of the bodies' own owns it (7.6.1).
pub record DeclaresCopy (program : Program) (shuns : ℕ → Bool) (apart : Apart) (ghosts unnamed : Id → Bool) (behind : List (Frame Value))
    (lower : List Master) (b : BodyForm) (s after : State) : Type 0 where
  pub runs_beside : RunsBeside program shuns apart ghosts unnamed behind lower b s after
  pub variable : ℕ
  pub object_type : ℕ
  pub later : List (Frame Value)
  pub is_next : s.control ≡ frame.DeclaresRecord variable object_type ∷ later
  pub not_by_default : may_declare apart object_type ≡ false
  pub created : Id
  pub object : Object
  pub is_new : object_at s.heap created ≡ None
  pub is_there : object_at after.heap created ≡ Some object
  pub known_by : object.cell.access ≡ object_type
  pub component : ℕ
  pub names_ghost : slice_get object.cell.values component ≡ Some (Names runs_beside.ghost)
  pub owns : after.masters ≡ owning (record { number = object.cell.home.item; owned = record_object object_type }) s.masters

-- A body that does not shun these types follows a value of one: the step looks at the object that it names, and changes it.
pub record FollowsGhost (program : Program) (shuns : ℕ → Bool) (apart : Apart) (ghosts : Id → Bool) (b : BodyForm) (s after : State) : Type 0 where
  pub runs_on : RunsOn program b s after
  pub shuns_not_all : body_shuns (program_form program).types shuns apart b ≡ false
  pub ghosts_there : (o : Id) → ghosts o ≡ true → IsOfShunned (program_form program).types shuns (object_at s.heap o)
  pub looks : Untouched program.types.items none_hidden ghosts s → ⊥
  pub ghost : Id
  pub is_ghost : ghosts ghost ≡ true
  pub changes : object_at after.heap ghost ≢ object_at s.heap ghost

-- The one is so in a run of a well-formed program,
abbrev pub PremiseIsMet : Type 0
PremiseIsMet =
    (program : Program) × IsWellFormed (program_form program)
    × ((input : List ℤ) × (events : List Event) × (s : State) × Run program (first_state program input) events s
    × ((shuns : (ℕ → Bool)) × (apart : Apart) × (ghosts : (Id → Bool)) × (unnamed : (Id → Bool)) × (behind : List (Frame Value))
    × (lower : List Master) × (b : BodyForm) × (after : State)
    × StoresGhost program shuns apart ghosts unnamed behind lower b s after))

-- so is the copy of a record, while a declared one is a ghost,
abbrev pub CopyIsMet : Type 0
CopyIsMet =
    (program : Program) × IsWellFormed (program_form program)
    × ((input : List ℤ) × (events : List Event) × (s : State) × Run program (first_state program input) events s
    × ((shuns : (ℕ → Bool)) × (apart : Apart) × (ghosts : (Id → Bool)) × (unnamed : (Id → Bool)) × (behind : List (Frame Value))
    × (lower : List Master) × (b : BodyForm) × (after : State)
    × CopiesRecord program shuns apart ghosts unnamed behind lower b s after))

-- so is the Finalize of what is freed,
abbrev pub FinalizationIsMet : Type 0
FinalizationIsMet =
    (program : Program) × IsWellFormed (program_form program)
    × ((input : List ℤ) × (events : List Event) × (s : State) × Run program (first_state program input) events s
    × ((shuns : (ℕ → Bool)) × (apart : Apart) × (ghosts : (Id → Bool)) × (unnamed : (Id → Bool)) × (behind : List (Frame Value))
    × (lower : List Master) × (b : BodyForm) × (after : State)
    × FinalizesFreed program shuns apart ghosts unnamed behind lower b s after))

-- so is the Initialize of what is allocated,
abbrev pub InitializationIsMet : Type 0
InitializationIsMet =
    (program : Program) × IsWellFormed (program_form program)
    × ((input : List ℤ) × (events : List Event) × (s : State) × Run program (first_state program input) events s
    × ((shuns : (ℕ → Bool)) × (apart : Apart) × (ghosts : (Id → Bool)) × (unnamed : (Id → Bool)) × (behind : List (Frame Value))
    × (lower : List Master) × (b : BodyForm) × (after : State)
    × InitializesNew program shuns apart ghosts unnamed behind lower b s after))

-- so is the Finalize of what is declared, which has been taken out just before,
abbrev pub DeclarationIsMet : Type 0
DeclarationIsMet =
    (program : Program) × IsWellFormed (program_form program)
    × ((input : List ℤ) × (events : List Event) × (before : State) × Run program (first_state program input) events before
    × ((s : State) × Step program before (takes 0) Quiet s
    × ((shuns : (ℕ → Bool)) × (apart : Apart) × (ghosts : (Id → Bool)) × (unnamed : (Id → Bool)) × (behind : List (Frame Value))
    × (lower : List Master) × (b : BodyForm) × (after : State)
    × FinalizesDeclared program shuns apart ghosts unnamed behind lower b before s after)))

-- so is the declaration of a copy,
abbrev pub CopiedDeclarationIsMet : Type 0
CopiedDeclarationIsMet =
    (program : Program) × IsWellFormed (program_form program)
    × ((input : List ℤ) × (events : List Event) × (s : State) × Run program (first_state program input) events s
    × ((shuns : (ℕ → Bool)) × (apart : Apart) × (ghosts : (Id → Bool)) × (unnamed : (Id → Bool)) × (behind : List (Frame Value))
    × (lower : List Master) × (b : BodyForm) × (after : State)
    × DeclaresCopy program shuns apart ghosts unnamed behind lower b s after))

-- and so is the other.
abbrev pub PremiseIsNeeded : Type 0
PremiseIsNeeded =
    (program : Program) × IsWellFormed (program_form program)
    × ((input : List ℤ) × (events : List Event) × (s : State) × Run program (first_state program input) events s
    × ((shuns : (ℕ → Bool)) × (apart : Apart) × (ghosts : (Id → Bool)) × (b : BodyForm) × (after : State)
    × FollowsGhost program shuns apart ghosts b s after))
