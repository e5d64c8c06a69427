-- What record objects and the objects of allocators without items hold when they come to be (4.8, 3.3.1), in any run of any program.

use Rattle.std.specs.Prelude.{◌≡◌, ℕ, true, List, [], ◌∷◌, ◌++◌, length, Some, None}
use Rattle.std.specs.List.{slice_set}
use Rattle.ada_values.specs.declared.value.Value.TheVariants as scalar
use Rattle.ada_program.specs.declared.program.ComponentKind.{ComponentKind}
use Rattle.ada_program.specs.declared.program.ComponentKind.TheVariants as component
use Rattle.ada_program.specs.declared.program.Program.{Program}
use Rattle.ada_program.specs.Form.{allocates_default, DeclarationForm, declares_record, StmtsForm, HandlersForm}
use Rattle.ada_program.specs.Typed.{reached_of}
use Rattle.ada_meaning.specs.declared.state.Mode.TheVariants.{Running}
use Rattle.ada_meaning.specs.declared.state.Value.{Value}
use Rattle.ada_meaning.specs.declared.state.Value.TheVariants.{Null, Names, Scalar}
use Rattle.ada_meaning.specs.Frame.{Frame}
use Rattle.ada_meaning.specs.Frame as frame
use Rattle.ada_meaning.specs.State.{Activation}
use Rattle.ada_meaning.specs.Named.{Object, State}
use Rattle.ada_meaning.specs.Run.{Event, settled, grants, Step}

-- A component holds what its declaration says where no value is given: an Integer and a Boolean their initial values, any other null (3.8).
abbrev pub HoldsAtFirst : ComponentKind → Value → Type 0
HoldsAtFirst (component.Integer initial) v = v ≡ Scalar (scalar.Integer initial)
HoldsAtFirst (component.Boolean initial) v = v ≡ Scalar (scalar.Boolean initial)
HoldsAtFirst (component.Access access) v = v ≡ Null

-- So does each component, in order.
abbrev pub HoldAtFirst : List ComponentKind → List Value → Type 0
HoldAtFirst [] [] = Unit {0}
HoldAtFirst [] (v ∷ vs) = ⊥
HoldAtFirst (kind ∷ kinds) [] = ⊥
HoldAtFirst (kind ∷ kinds) (v ∷ vs) = HoldsAtFirst kind v × HoldAtFirst kinds vs

-- What comes to be where such an allocator is granted its storage: one object more, of its access type, whose components hold this.
abbrev pub MakesByDefault : Type 0
MakesByDefault =
    (program : Program) (access : ℕ) (kinds : List ComponentKind) (behind : List (Frame Value)) (before mid after : State)
    (running : Activation Value) (suspended : List (Activation Value)) (first second : Event)
    → reached_of program.types.items access ≡ Some kinds
    → before.mode ≡ Running → before.control ≡ frame.Evaluates (allocates_default access) ∷ behind → before.activations ≡ running ∷ suspended
    → Step program before settled first mid → Step program mid (grants true) second after
    → (object : Object) × (after.heap ≡ before.heap ++ object ∷ []) × (object.cell.access ≡ access) × HoldAtFirst kinds object.cell.values

-- What comes to be where a record object is declared without an initial value: one object more, known by its type, of no pool, whose components hold
-- this; and its variable names it.
abbrev pub MakesRecords : Type 0
MakesRecords =
    (program : Program) (x object_type : ℕ) (kinds : List ComponentKind) (ds : List DeclarationForm) (fs : StmtsForm) (hs : HandlersForm)
    (behind : List (Frame Value)) (before after : State) (running : Activation Value) (suspended : List (Activation Value)) (event : Event)
    → reached_of program.types.items object_type ≡ Some kinds
    → before.mode ≡ Running → before.control ≡ frame.Elaborates (declares_record x object_type None ∷ ds) fs hs ∷ behind
    → before.activations ≡ running ∷ suspended → Step program before settled event after
    → (object : Object) × (after.heap ≡ before.heap ++ object ∷ []) × (object.cell.access ≡ object_type) × (object.cell.home.pool ≡ None)
    × HoldAtFirst kinds object.cell.values
    × (after.activations ≡ record running { places = slice_set running.places x (Names (record { 0 = length before.heap })) } ∷ suspended)
