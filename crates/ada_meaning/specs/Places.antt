-- Where the controlled parts of objects begin, and whose operations they have (7.6): as their types are declared.

use Rattle.std.specs.Prelude.{◌≡◌, ℕ, ◌+◌, ℤ, List, length, map, Some}
use Rattle.std.specs.List.{slice_get}
use Rattle.ada_program.specs.declared.program.ComponentKind.{ComponentKind}
use Rattle.ada_program.specs.declared.program.Finalization.{Finalization}
use Rattle.ada_program.specs.declared.program.PartKind.TheVariants as part
use Rattle.ada_program.specs.declared.program.Program.{Program}
use Rattle.ada_program.specs.declared.program.TypeNo.{TypeNo}
use Rattle.ada_program.specs.Controlled.{number_of, number_reached, operations_of, part_firsts}
use Rattle.ada_program.specs.ProgramForm.{PartForm, record_of, type_form, program_form}
use Rattle.ada_program.specs.WellFormed.{IsWellFormed}
use Rattle.ada_meaning.specs.declared.state.Id.{Id}
use Rattle.ada_meaning.specs.Named.{Object, State, object_at}
use Rattle.ada_meaning.specs.Run.{Event, Run, first_state}

-- A record type is declared with these components (3.8), and its objects are finalized so.
abbrev pub Declares : Program → (record_type : ℕ) → List PartForm → Finalization → Type 0
Declares program t ps f =
    (name : List ℕ) × (components : List ComponentKind)
    × (slice_get (map type_form program.types.items) t ≡ Some (record_of name ps components (Some f)))

-- A record of a controlled type is the first of its parts, and begins with its first component.
abbrev pub RecordsBeginThemselves : Type 0
RecordsBeginThemselves =
    (program : Program) (t i : ℕ) (ps : List PartForm) (f : Finalization) (p : PartForm)
    → IsWellFormed (program_form program) → Declares program t ps f → slice_get ps i ≡ Some p → p.kind ≡ part.Parent
    → slice_get (part_firsts program.types.items (Some f.number.0)) 0 ≡ Some 0

-- The parts of a component that is a record have the numbers from that on which the declaration of the component says, and begin so far behind the component's
-- first elementary one as they do in a record of its type alone.
abbrev pub PartsBeginWithComponents : Type 0
PartsBeginWithComponents =
    (program : Program) (t i : ℕ) (ps : List PartForm) (f : Finalization) (p : PartForm) (u : TypeNo) (m k c : ℕ)
    → IsWellFormed (program_form program) → Declares program t ps f → slice_get ps i ≡ Some p → p.kind ≡ part.Record u
    → number_of program.types.items (Some u.0) ≡ Some m → slice_get (part_firsts program.types.items (Some m)) k ≡ Some c
    → slice_get (part_firsts program.types.items (Some f.number.0)) (p.part + k) ≡ Some (p.first + c)

-- There are as many of them as the type says, so these are all.
abbrev pub PartsAreCounted : Type 0
PartsAreCounted =
    (program : Program) (t : ℕ) (ps : List PartForm) (f : Finalization)
    → IsWellFormed (program_form program) → Declares program t ps f → length (part_firsts program.types.items (Some f.number.0)) ≡ f.parts

-- In every run each object has the parts of its type, and each of them stays where it begins.
abbrev pub PartsStayInPlace : Type 0
PartsStayInPlace =
    (program : Program) (input : List ℤ) (events : List Event) (last : State) (o : Id) (object : Object)
    → Run program (first_state program input) events last → object_at last.heap o ≡ Some object
    → map (λ p. p.first) object.cell.parts ≡ part_firsts program.types.items (number_reached program.types.items object.cell.access)

-- The types that have controlled parts are told apart by their numbers.
abbrev pub NumbersAreAlone : Type 0
NumbersAreAlone =
    (program : Program) (t u n : ℕ) → IsWellFormed (program_form program)
    → number_of program.types.items (Some t) ≡ Some n → number_of program.types.items (Some u) ≡ Some n → t ≡ u

-- Where they are, the operations that are found by the number of a type are its own.
abbrev pub TypesHaveTheirOperations : Type 0
TypesHaveTheirOperations =
    (program : Program) (t : ℕ) (ps : List PartForm) (f : Finalization)
    → Declares program t ps f → ((u : ℕ) → number_of program.types.items (Some u) ≡ Some f.number.0 → u ≡ t)
    → operations_of program.types.items f.number.0 ≡ f.operations
