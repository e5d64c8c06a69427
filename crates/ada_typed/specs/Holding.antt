-- Which value a variable or a component may hold, and what lies in an object.

use Rattle.std.specs.Prelude.{◌≡◌, ℕ, ◌<◌, ℤ, true, List, [], ◌∷◌, length, map, Option, Some, None}
use Rattle.std.specs.List.{slice_get}
use Rattle.ada_program.specs.declared.program.ComponentKind.{ComponentKind}
use Rattle.ada_program.specs.declared.program.VariableKind.{VariableKind}
use Rattle.ada_program.specs.declared.program.VariableKind.TheVariants as variable
use Rattle.ada_program.specs.declared.program.Program.{Program}
use Rattle.ada_program.specs.Parts.{HasPart}
use Rattle.ada_program.specs.ProgramForm.{TypeForm, ProgramForm, program_form, seen_in}
use Rattle.ada_program.specs.Walks.{Walks}
use Rattle.ada_program.specs.WellFormed.{IsWellFormed, is_access, reached_components, has_record_at, has_parts_from, object_named, parts_named, held_kind, variable_kind}
use Rattle.ada_values.specs.declared.value.Value.TheVariants as scalar
use Rattle.ada_meaning.specs.declared.state.Id.{Id}
use Rattle.ada_meaning.specs.declared.state.Place.{Place}
use Rattle.ada_meaning.specs.declared.state.Value.{Value}
use Rattle.ada_meaning.specs.declared.state.Value.TheVariants.{Null, Names, Scalar, Part}
use Rattle.ada_meaning.specs.Heap.{Cell}
use Rattle.ada_meaning.specs.Step.{procedure_of, places, held}
use Rattle.ada_meaning.specs.Named.{Object, State, named, object_at}
use Rattle.ada_meaning.specs.Run.{Event, Run, first_state}

-- What lies in objects, by their names.
abbrev pub Cells : Type 0
Cells = List (Cell Value)

-- A value is an Integer (3.5.4).
abbrev pub IsInteger : Value → Type 0
IsInteger Null = ⊥
IsInteger (Names o) = ⊥
IsInteger (Scalar (scalar.Integer i)) = Unit {0}
IsInteger (Scalar (scalar.Boolean b)) = ⊥
IsInteger (Part o place) = ⊥

-- A value is a Boolean (3.5.3).
abbrev pub IsBoolean : Value → Type 0
IsBoolean Null = ⊥
IsBoolean (Names o) = ⊥
IsBoolean (Scalar (scalar.Integer i)) = ⊥
IsBoolean (Scalar (scalar.Boolean b)) = Unit {0}
IsBoolean (Part o place) = ⊥

-- A name was given to an object of this access type.
abbrev pub Designates : Cells → ℕ → Id → Type 0
Designates cells access o = (cell : Cell Value) × (slice_get cells o.0 ≡ Some cell) × (cell.access ≡ access)

-- A value is null, or names an object of this access type, gone or not (3.10).
abbrev pub IsAccess : Cells → ℕ → Value → Type 0
IsAccess cells access Null = Unit {0}
IsAccess cells access (Names o) = Designates cells access o
IsAccess cells access (Scalar v) = ⊥
IsAccess cells access (Part o place) = ⊥

-- How many controlled parts the objects have that values of a type name (7.6).
abbrev pub parts_reached : List TypeForm → (access : ℕ) → ℕ
parts_reached types access = parts_named types (object_named types (Some access))

-- A record of a type lies in the records of another, behind so many elementary components and controlled parts (7.6), where these are types.
abbrev pub WalksTo : List TypeForm → (within record_type : Option ℕ) → (first part : ℕ) → Type 0
WalksTo types None u first part = ⊥
WalksTo types (Some t) None first part = ⊥
WalksTo types (Some t) (Some u) first part = Walks types t first part u

-- Objects of a type have a part of a record type, however deep (3.8), where these are types.
abbrev pub HasPartOf : List TypeForm → (object record_type : Option ℕ) → Type 0
HasPartOf types None t = ⊥
HasPartOf types (Some whole) None = ⊥
HasPartOf types (Some whole) (Some t) = HasPart types t whole

-- The parts of a record lie in an object, behind so many elementary components and controlled parts (7.6): the controlled ones are parts of the object, and
-- where there are some, the record is found there by walking into declared components. And the objects of the object's type have a part of the record's (3.8).
abbrev pub PartsLie : List TypeForm → (object record_type : Option ℕ) → (first part : ℕ) → Type 0
PartsLie types object t first part =
    (has_parts_from (parts_named types t) part (parts_named types object) ≡ true) × (0 < parts_named types t → WalksTo types object t first part)
    × HasPartOf types object t

-- A record of the type that is known by an object's type lies in the object of this name, where a place says (6.2): its components are components of the
-- object, and so it is with its controlled parts (7.6).
abbrev pub LiesIn : List TypeForm → Cells → (object_type : ℕ) → Id → Place → Type 0
LiesIn types cells t o place =
    (cell : Cell Value) × (slice_get cells o.0 ≡ Some cell)
    × (has_record_at (reached_components types cell.access) place.component (reached_components types t) ≡ true)
    × PartsLie types (object_named types (Some cell.access)) (object_named types (Some t)) place.component place.part

-- What a record object or a record parameter holds: null before it is declared; the name of the object that is known by its type; or what refers to a
-- record of its type (6.2).
abbrev pub IsRecord : List TypeForm → Cells → (object_type : ℕ) → Value → Type 0
IsRecord types cells t Null = Unit {0}
IsRecord types cells t (Names o) = Designates cells t o
IsRecord types cells t (Scalar v) = ⊥
IsRecord types cells t (Part o place) = LiesIn types cells t o place

-- A value is one that can be held where this kind is.
abbrev pub HasKind : List TypeForm → Cells → VariableKind → Value → Type 0
HasKind types cells variable.Integer v = IsInteger v
HasKind types cells variable.Boolean v = IsBoolean v
HasKind types cells (variable.Access access) v = IsAccess cells access.0 v
HasKind types cells (variable.Record object) v = IsRecord types cells object.0 v

-- Values are those of the components of an object, one for each, in order.
abbrev pub HaveKinds : List TypeForm → Cells → List ComponentKind → List Value → Type 0
HaveKinds types cells [] [] = Unit {0}
HaveKinds types cells [] (v ∷ vs) = ⊥
HaveKinds types cells (c ∷ cs) [] = ⊥
HaveKinds types cells (c ∷ cs) (v ∷ vs) = HasKind types cells (held_kind c) v × HaveKinds types cells cs vs

-- An object of an access type is from a pool (13.11).
abbrev pub IsPooled : List TypeForm → Cell Value → Type 0
IsPooled types cell = is_access types cell.access ≡ true → (pool : ℕ) × (cell.home.pool ≡ Some pool)

-- What lies in an object is what the record type has that its access type designates, or that it is of; and it is from a pool, where it is allocated.
abbrev pub IsFilled : List TypeForm → Cells → Cell Value → Type 0
IsFilled types cells cell =
    (components : List ComponentKind) × (reached_components types cell.access ≡ Some components) × HaveKinds types cells components cell.values
    × IsPooled types cell

-- What lies in one object, and in all.
abbrev pub cell_of : Object → Cell Value
cell_of object = object.cell

-- The cells of objects.
abbrev pub cells_of : List Object → Cells
cells_of objects = map cell_of objects

-- In every run of a well-formed program, what lies in an object is what the record type has that its access type designates.
abbrev pub ObjectsHaveTheirKinds : Type 0
ObjectsHaveTheirKinds = (program : Program) → IsWellFormed (program_form program) → (input : List ℤ) (events : List Event) (last : State) (o : Id) (object : Object) → Run program (first_state program input) events last → object_at last.heap o ≡ Some object → IsFilled (program_form program).types (cells_of last.heap) object.cell

-- In every run of a well-formed program, an object has as many controlled parts as the program says of the objects of its type (7.6).
abbrev pub ObjectsHaveTheirParts : Type 0
ObjectsHaveTheirParts = (program : Program) → IsWellFormed (program_form program) → (input : List ℤ) (events : List Event) (last : State) (o : Id) (object : Object) → Run program (first_state program input) events last → object_at last.heap o ≡ Some object → length object.cell.parts ≡ parts_reached (program_form program).types object.cell.access

-- The program as the body sees it that runs.
abbrev pub seen_now : ProgramForm → State → ProgramForm
seen_now p s = seen_in (procedure_of s.activations) p

-- The variable of a number has a place in the running activation, and a value of this kind lies there.
abbrev pub HoldsKind : List TypeForm → State → ℕ → VariableKind → Type 0
HoldsKind types s x kind = (slice_get (places s) x ≡ Some (held named s x)) × HasKind types (cells_of s.heap) kind (held named s x)

-- In every run of a well-formed program, each variable of the body that runs holds a value of its kind.
abbrev pub VariablesHaveTheirKinds : Type 0
VariablesHaveTheirKinds =
    (program : Program) → IsWellFormed (program_form program) →
    (input : List ℤ) (events : List Event) (last : State) (x : ℕ) (kind : VariableKind) →
    Run program (first_state program input) events last →
    variable_kind (seen_now (program_form program) last).variables x ≡ Some kind →
    HoldsKind (program_form program).types last x kind
