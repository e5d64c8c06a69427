-- A record is copied as a whole (4.3.1, 5.2), in any run of any program: from one object to another, or within one.

use Rattle.std.specs.Prelude.{◌≡◌, ◌≢◌, ℕ, suc, ◌+◌, true, ◌<◌, ◌≤◌, ◌⊎◌, List, [], ◌∷◌, length, Option, Some, None}
use Rattle.std.specs.List.{slice_get}
use Rattle.ada_program.specs.declared.program.Program.{Program}
use Rattle.ada_program.specs.Form.{RecordPathForm, item_of_record, assigns_record, StmtsForm, a_stmt}
use Rattle.ada_program.specs.Typed.{width_of}
use Rattle.ada_parts.specs.declared.tasks.Direction.TheVariants.{PartsFirst, WholeFirst}
use Rattle.ada_meaning.specs.declared.event.Birth.TheVariants.{Adjustment}
use Rattle.ada_meaning.specs.declared.event.Cause.TheVariants.{Assigning}
use Rattle.ada_meaning.specs.declared.state.Id.{Id}
use Rattle.ada_meaning.specs.declared.state.Place.{Place}
use Rattle.ada_meaning.specs.declared.state.Mode.TheVariants.{Running}
use Rattle.ada_meaning.specs.declared.state.Value.{Value}
use Rattle.ada_meaning.specs.declared.state.Value.TheVariants.{Names, Part}
use Rattle.ada_meaning.specs.Frame.{Frame, begins, ends}
use Rattle.ada_meaning.specs.Frame as frame
use Rattle.ada_meaning.specs.State.{Activation}
use Rattle.ada_meaning.specs.Step.{has_parts, record_tasks, treating}
use Rattle.ada_meaning.specs.Named.{Object, State, object_at}
use Rattle.ada_meaning.specs.Run.{Event, settled, Step}

-- What a component of an object holds, if there is such an object, and it has such a component.
abbrev pub component_in : Option Object → ℕ → Option Value
component_in None c = None
component_in (Some object) c = slice_get object.cell.values c

-- The same of the object of a name.
abbrev pub component_at : List Object → Id → ℕ → Option Value
component_at objects o c = component_in (object_at objects o) c

-- An object once its components hold this.
abbrev pub with_values : List Value → Object → Object
with_values values object = record object { cell = record (object.cell) { values = values } }

-- What becomes of the objects where a record of so many components is copied: it lies in the source from component `first` on, and goes to the target
-- from component `to` on. Both may be one object.
pub record IsCopied (before after : List Object) (source target : Id) (first to count : ℕ) : Type 0 where
  -- each of its components in the target holds what that of the source held before
  pub alike : (i : ℕ) → i < count → component_at after target (to + i) ≡ component_at before source (first + i)
  -- there were all of these
  pub whole : (i : ℕ) → i < count → component_at before source (first + i) ≢ None
  -- the other components of the target hold what they held
  pub others : (c : ℕ) → (c < to) ⊎ (to + count ≤ c) → component_at after target c ≡ component_at before target c
  -- the target has as many components as before, and nothing else of it changes
  pub keeps :
      (object : Object) × (values : List Value) × (object_at before target ≡ Some object) × (length values ≡ length object.cell.values)
      × (object_at after target ≡ Some (with_values values object))
  -- each other object is as before
  pub elsewhere : (o : Id) → o ≢ target → object_at after o ≡ object_at before o
  -- a record that is copied onto itself changes nothing
  pub onto_itself : source ≡ target → first ≡ to → after ≡ before

-- What comes to be where a record is copied, once the object in which it lies is found: its components are read, no item is left, and they are
-- stored, in three steps. What is behind that comes next, without the operand that named the source.
abbrev pub RecordsAreCopied : Type 0
RecordsAreCopied =
    (program : Program) (source target : Id) (first to record_type : ℕ) (behind : List (Frame Value)) (before mid later after : State)
    (procedure : Option ℕ) (places pending : List Value) (suspended : List (Activation Value)) (one two three : Event)
    → before.mode ≡ Running
    → before.control
    ≡ frame.Copies first record_type ∷ frame.Fills [] ∷ frame.StoresRecord (Names target) to (width_of program.types.items record_type) ∷ behind
    → before.activations ≡ record { procedure = procedure; places = places; operands = Names source ∷ pending } ∷ suspended
    → Step program before settled one mid → Step program mid settled two later → Step program later settled three after
    → IsCopied before.heap after.heap source target first to (width_of program.types.items record_type)
    × (after.mode ≡ Running) × (after.control ≡ behind) × (after.activations ≡ record { procedure = procedure; places = places; operands = pending } ∷ suspended)

-- A record that has controlled parts is assigned to another (5.2, 7.6).

-- The target is found, and then the source.
abbrev pub TargetsComeFirst : Type 0
TargetsComeFirst =
    (program : Program) (target source : RecordPathForm) (later : StmtsForm) (outer : List (Frame Value)) (before after : State) (event : Event)
    → before.mode ≡ Running → has_parts program.types.items target.record_type ≡ true
    → before.control ≡ frame.Does (a_stmt (assigns_record target (item_of_record source ∷ [])) later) ∷ outer → Step program before settled event after
    → after ≡ record before { control = frame.Refers target ∷ frame.Refers source ∷ frame.Assigns target.record_type ∷ frame.Does later ∷ outer }

-- Where both are one record, nothing is done.
abbrev pub OntoItselfNothingIsDone : Type 0
OntoItselfNothingIsDone =
    (program : Program) (record_type : ℕ) (o : Id) (target source : Place) (outer : List (Frame Value)) (before after : State) (procedure : Option ℕ)
    (places pending : List Value) (suspended : List (Activation Value)) (event : Event)
    → before.mode ≡ Running → before.control ≡ frame.Assigns record_type ∷ outer
    → before.activations ≡ record { procedure = procedure; places = places; operands = Part o source ∷ Part o target ∷ pending } ∷ suspended
    → target.part ≡ source.part → Step program before settled event after
    → after ≡ record before {
      control = outer;
      activations = record { procedure = procedure; places = places; operands = pending } ∷ suspended;
    }

-- Else the target is finalized, the components of the source are copied to it, and then it is adjusted, under a number that no other assignment has.
abbrev pub AssignmentsFinalizeCopyAdjust : Type 0
AssignmentsFinalizeCopyAdjust =
    (program : Program) (record_type : ℕ) (o p : Id) (target source : Place) (outer : List (Frame Value)) (before after : State) (procedure : Option ℕ)
    (places pending : List Value) (suspended : List (Activation Value)) (event : Event)
    → before.mode ≡ Running → before.control ≡ frame.Assigns record_type ∷ outer
    → before.activations ≡ record { procedure = procedure; places = places; operands = Part p source ∷ Part o target ∷ pending } ∷ suspended
    → (o ≢ p) ⊎ (target.part ≢ source.part) → Step program before settled event after
    → after ≡ record before {
      next = suc before.next;
      control = treating (Names o) (ends (Assigning before.next)) (record_tasks program.types.items record_type WholeFirst target.part)
          (frame.Copies source.component record_type ∷ frame.StoresRecord (Names o) target.component (width_of program.types.items record_type)
          ∷ treating (Names o) (begins (Adjustment before.next) []) (record_tasks program.types.items record_type PartsFirst target.part) outer);
      activations = record { procedure = procedure; places = places; operands = Names p ∷ pending } ∷ suspended;
    }
