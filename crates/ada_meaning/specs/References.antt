-- References (6.2, 6.4.1), in any step of any program: a record that is given is passed by reference, and so is the place of a component that is to get
-- something back.

use Rattle.std.specs.Prelude.{◌≡◌, ◌≢◌, ◌⊎◌, ℕ, ◌+◌, false, List, [], ◌∷◌, Option, Some}
use Rattle.std.specs.List.{slice_get}
use Rattle.ada_program.specs.declared.program.Program.{Program}
use Rattle.ada_program.specs.Form.{PathForm, RecordPathForm, reads, ItemForm, item_of_record, RightForm, assigns, assigns_record, frees, gets, StmtsForm, a_stmt}
use Rattle.ada_meaning.specs.declared.state.Id.{Id}
use Rattle.ada_meaning.specs.declared.state.Place.{Place}
use Rattle.ada_meaning.specs.declared.state.Mode.TheVariants.{Running}
use Rattle.ada_meaning.specs.declared.state.Value.{Value}
use Rattle.ada_meaning.specs.declared.state.Value.TheVariants.{Names, Part}
use Rattle.ada_meaning.specs.Frame.{Frame}
use Rattle.ada_meaning.specs.Frame as frame
use Rattle.ada_meaning.specs.State.{Activation}
use Rattle.ada_meaning.specs.Step.{has_parts}
use Rattle.ada_meaning.specs.Named.{State}
use Rattle.ada_meaning.specs.Records.{component_at}
use Rattle.ada_meaning.specs.Run.{Event, settled, Step}

-- A record that is given for a formal parameter is referred to (6.2): its object is found, and the formal parameter gets what refers to the record in it.
abbrev pub RecordsAreReferredTo : Type 0
RecordsAreReferredTo =
    (program : Program) (place : Place) (record_type : ℕ) (o : Id) (outer : List (Frame Value)) (before after : State) (procedure : Option ℕ) (places pending : List Value)
    (suspended : List (Activation Value)) (event : Event)
    → before.mode ≡ Running → before.control ≡ frame.RefersIn place record_type ∷ outer
    → before.activations ≡ record { procedure = procedure; places = places; operands = Names o ∷ pending } ∷ suspended
    → Step program before settled event after
    → (after ≡ record before {
      control = outer;
      activations = record { procedure = procedure; places = places; operands = Part o place ∷ pending } ∷ suspended;
    })

-- So is a component that is given, whose value the formal parameter gets (6.4.1).
abbrev pub ComponentsAreOpened : Type 0
ComponentsAreOpened =
    (program : Program) (c : ℕ) (o : Id) (outer : List (Frame Value)) (before after : State) (procedure : Option ℕ) (places pending : List Value)
    (suspended : List (Activation Value)) (event : Event)
    → before.mode ≡ Running → before.control ≡ frame.OpensIn c ∷ outer
    → before.activations ≡ record { procedure = procedure; places = places; operands = Names o ∷ pending } ∷ suspended
    → Step program before settled event after
    → (v : Value) × (component_at before.heap o c ≡ Some v)
    × (after ≡ record before {
      control = outer;
      activations = record { procedure = procedure; places = places; operands = v ∷ Part o (record { component = c; part = 0 }) ∷ pending } ∷ suspended;
    })

-- A component of what a variable refers to is that component of the object, from where the record begins (6.2): so it is read there, and an assignment goes
-- there.
abbrev pub ParametersShareRecords : Type 0
ParametersShareRecords =
    (program : Program) (path : PathForm) (c : ℕ) (base : Place) (o : Id) (outer : List (Frame Value)) (before after : State) (procedure : Option ℕ)
    (places pending : List Value) (suspended : List (Activation Value)) (event : Event)
    → before.mode ≡ Running → path.selectors ≡ c ∷ []
    → before.activations ≡ record { procedure = procedure; places = places; operands = pending } ∷ suspended
    → slice_get places path.root ≡ Some (Part o base) → Step program before settled event after
    → (before.control ≡ frame.Computes (reads path) ∷ outer
    → (v : Value) × (component_at before.heap o (base.component + c) ≡ Some v)
    × (after ≡ record before {
      control = outer;
      activations = record { procedure = procedure; places = places; operands = v ∷ pending } ∷ suspended;
    }))
    × ((later : StmtsForm) (right : RightForm) → before.control ≡ frame.Does (a_stmt (assigns path right) later) ∷ outer
    → after ≡ record before {
      control = frame.Targets (base.component + c) right ∷ frame.Does later ∷ outer;
      activations = record { procedure = procedure; places = places; operands = Names o ∷ pending } ∷ suspended;
    })

-- A longer path goes on behind that component of the object: what is selected from there on is not counted from the record.
abbrev pub PathsGoOnThere : Type 0
PathsGoOnThere =
    (program : Program) (path : PathForm) (c d : ℕ) (base : Place) (cs : List ℕ) (o : Id) (outer : List (Frame Value)) (before after : State) (procedure : Option ℕ)
    (places pending : List Value) (suspended : List (Activation Value)) (event : Event)
    → before.mode ≡ Running → path.selectors ≡ c ∷ d ∷ cs
    → before.activations ≡ record { procedure = procedure; places = places; operands = pending } ∷ suspended
    → slice_get places path.root ≡ Some (Part o base) → before.control ≡ frame.Computes (reads path) ∷ outer → Step program before settled event after
    → (v : Value) × (component_at before.heap o (base.component + c) ≡ Some v)
    × (after ≡ record before {
      control = frame.Follows (d ∷ cs) ∷ outer;
      activations = record { procedure = procedure; places = places; operands = v ∷ pending } ∷ suspended;
    })

-- A component of what a variable refers to is found there, too, where it is given for a formal parameter, freed or read from the input.
abbrev pub ComponentsAreFoundThere : Type 0
ComponentsAreFoundThere =
    (program : Program) (path : PathForm) (c : ℕ) (base : Place) (o : Id) (outer : List (Frame Value)) (before after : State) (procedure : Option ℕ)
    (places pending : List Value) (suspended : List (Activation Value)) (event : Event)
    → before.mode ≡ Running → path.selectors ≡ c ∷ []
    → before.activations ≡ record { procedure = procedure; places = places; operands = pending } ∷ suspended
    → slice_get places path.root ≡ Some (Part o base) → Step program before settled event after
    → (before.control ≡ frame.Opens path ∷ outer
    → after ≡ record before {
      control = frame.OpensIn (base.component + c) ∷ outer;
      activations = record { procedure = procedure; places = places; operands = Names o ∷ pending } ∷ suspended;
    })
    × ((access : ℕ) (later : StmtsForm) → before.control ≡ frame.Does (a_stmt (frees access path) later) ∷ outer
    → after ≡ record before {
      control = frame.FreesIn access (base.component + c) ∷ frame.Does later ∷ outer;
      activations = record { procedure = procedure; places = places; operands = Names o ∷ pending } ∷ suspended;
    })
    × ((later : StmtsForm) → before.control ≡ frame.Does (a_stmt (gets path) later) ∷ outer
    → after ≡ record before {
      control = frame.Receives (base.component + c) ∷ frame.Does later ∷ outer;
      activations = record { procedure = procedure; places = places; operands = Names o ∷ pending } ∷ suspended;
    })

-- A record that a variable refers to begins, as a whole, where it begins in its object: so it is given once more, copied, and assigned to. Where it has
-- controlled parts, an assignment refers to it first, as to one that is given.
abbrev pub RecordsBeginThere : Type 0
RecordsBeginThere =
    (program : Program) (p : RecordPathForm) (base : Place) (o : Id) (outer : List (Frame Value)) (before after : State) (procedure : Option ℕ)
    (places pending : List Value) (suspended : List (Activation Value)) (event : Event)
    → before.mode ≡ Running → p.object.selectors ≡ []
    → before.activations ≡ record { procedure = procedure; places = places; operands = pending } ∷ suspended
    → slice_get places p.object.root ≡ Some (Part o base) → Step program before settled event after
    → (before.control ≡ frame.Refers p ∷ outer
    → after ≡ record before {
      control = frame.RefersIn (record { component = base.component + p.first; part = base.part + p.part }) p.record_type ∷ outer;
      activations = record { procedure = procedure; places = places; operands = Names o ∷ pending } ∷ suspended;
    })
    × ((items : List ItemForm) → before.control ≡ frame.Fills (item_of_record p ∷ items) ∷ outer
    → after ≡ record before {
      control = frame.Copies (base.component + p.first) p.record_type ∷ frame.Fills items ∷ outer;
      activations = record { procedure = procedure; places = places; operands = Names o ∷ pending } ∷ suspended;
    })
    × ((items : List ItemForm) (later : StmtsForm) → has_parts program.types.items p.record_type ≡ false
    → before.control ≡ frame.Does (a_stmt (assigns_record p items) later) ∷ outer
    → after ≡ record before {
      control = frame.TargetsRecord (base.component + p.first) p.record_type items ∷ frame.Does later ∷ outer;
      activations = record { procedure = procedure; places = places; operands = Names o ∷ pending } ∷ suspended;
    })

-- What is stored in a component lies there, and nothing else changes (5.2).
abbrev pub StoresAreKept : Type 0
StoresAreKept =
    (program : Program) (c : ℕ) (o : Id) (v : Value) (outer : List (Frame Value)) (before after : State) (procedure : Option ℕ) (places pending : List Value)
    (suspended : List (Activation Value)) (event : Event)
    → before.mode ≡ Running → before.control ≡ frame.StoresIn (Names o) c ∷ outer
    → before.activations ≡ record { procedure = procedure; places = places; operands = v ∷ pending } ∷ suspended
    → Step program before settled event after
    → (component_at after.heap o c ≡ Some v)
    × ((p : Id) (d : ℕ) → (p ≢ o) ⊎ (d ≢ c) → component_at after.heap p d ≡ component_at before.heap p d)
    × (after ≡ record before {
      control = outer;
      activations = record { procedure = procedure; places = places; operands = pending } ∷ suspended;
      heap = after.heap;
    })
