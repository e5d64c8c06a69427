-- Which record types of a program are controlled, and which of their components have controlled parts.

use Rattle.std.specs.Prelude.{◌≡◌, ℕ, zero, suc, ◌+◌, ◌==◌, Bool, true, false, ◌||◌, if◌then◌else◌, List, [], ◌∷◌, ◌++◌, length, map, flat_map, count_by, find, Option, Some, None, is_some}
use Rattle.std.specs.List.{slice_get}
use Rattle.ada_parts.specs.Shape.{Shape, parts_of}
use Rattle.ada_program.specs.declared.program.Finalization.{Finalization}
use Rattle.ada_program.specs.declared.program.Operations.{Operations}
use Rattle.ada_program.specs.declared.program.Part.{Part}
use Rattle.ada_program.specs.declared.program.PartKind.{PartKind}
use Rattle.ada_program.specs.declared.program.PartKind.TheVariants as part
use Rattle.ada_program.specs.declared.program.TypeDefinition.{TypeDefinition}
use Rattle.ada_program.specs.declared.program.ProcedureNo.{ProcedureNo}
use Rattle.ada_program.specs.declared.program.TypeDefinition.TheVariants as definition
use Rattle.ada_program.specs.Typed.{designated_of}

-- The number of a record type among those that have controlled parts, if it is one.
abbrev pub number_in : Option Finalization → Option ℕ
number_in None = None
number_in (Some f) = Some f.number.0

-- The same of a type: only record types have controlled parts.
abbrev pub number_by : Option TypeDefinition → Option ℕ
number_by None = None
number_by (Some (definition.Record name parts components finalization)) = number_in finalization
number_by (Some (definition.Access name designated pool)) = None
number_by (Some (definition.Object record_type)) = None

-- The same of the type of a number, if there is such a type.
abbrev pub number_of : List TypeDefinition → (record_type : Option ℕ) → Option ℕ
number_of types None = None
number_of types (Some t) = number_by (slice_get types t)

-- The same of the objects that an access type's values name, or of the object that is known by a type.
abbrev pub number_reached : List TypeDefinition → (access : ℕ) → Option ℕ
number_reached types access = number_of types (designated_of types access)

-- Whether this is the number.
abbrev pub is_number : ℕ → Option ℕ → Bool
is_number n None = false
is_number n (Some m) = m == n

-- The type that has this number among those that have controlled parts.
abbrev pub type_numbered : List TypeDefinition → ℕ → Option TypeDefinition
type_numbered types n = find (λ t. is_number n (number_by (Some t))) types

-- The components of a record type, as they are declared (3.8).
abbrev pub parts_by : Option TypeDefinition → List Part
parts_by None = []
parts_by (Some (definition.Record name parts components finalization)) = parts.items
parts_by (Some (definition.Access name designated pool)) = []
parts_by (Some (definition.Object record_type)) = []

-- A declared component is the parent part: what a controlled type is derived from (7.6).
abbrev pub is_parent : PartKind → Bool
is_parent (part.Elementary kind) = false
is_parent (part.Record t) = false
is_parent part.Parent = true

-- One of some components is.
abbrev pub has_parent : List Part → Bool
has_parent [] = false
has_parent (p ∷ ps) = is_parent p.kind || has_parent ps

-- A record type of this number has controlled parts, if it is known that it has some.
abbrev pub if_parts : (older : List Shape) → Option ℕ → List ℕ
if_parts older None = []
if_parts older (Some n) = if parts_of older n == 0 then [] else n ∷ []

-- The type of a declared component, by its number, where it has controlled parts; the types with less numbers are known.
abbrev pub with_parts : List TypeDefinition → (older : List Shape) → PartKind → List ℕ
with_parts types older (part.Elementary kind) = []
with_parts types older (part.Record t) = if_parts older (number_of types (Some t.0))
with_parts types older part.Parent = []

-- The components of a record type that have controlled parts, by their types, in order.
abbrev pub components_with_parts : List TypeDefinition → (older : List Shape) → List Part → List ℕ
components_with_parts types older [] = []
components_with_parts types older (p ∷ ps) = with_parts types older p.kind ++ components_with_parts types older ps

-- A record type of these components as finalization sees it (7.6).
abbrev pub shape_by : List TypeDefinition → (older : List Shape) → List Part → Shape
shape_by types older ps = record { controlled = has_parent ps; components = components_with_parts types older ps }

-- The first record types that have controlled parts, as finalization sees them: the newest comes first in the table.
abbrev pub shapes_up_to : List TypeDefinition → (count : ℕ) → List Shape
shapes_up_to types zero = []
shapes_up_to types (suc n) = shape_by types (shapes_up_to types n) (parts_by (type_numbered types n)) ∷ shapes_up_to types n

-- Whether a type has controlled parts.
abbrev pub has_parts : TypeDefinition → Bool
has_parts t = is_some (number_by (Some t))

-- The record types of a program that have controlled parts, by their numbers, as finalization sees them.
abbrev pub shapes_of : List TypeDefinition → List Shape
shapes_of types = shapes_up_to types (count_by has_parts types)

-- The operations of a controlled type (7.6).

-- A type that overrides nothing.
abbrev pub no_operations : Operations
no_operations = record { initialize = None; adjust = None; finalize = None }

-- What a type overrides.
abbrev pub operations_in : Option Finalization → Operations
operations_in None = no_operations
operations_in (Some f) = f.operations

-- The same of a type: only record types are controlled.
abbrev pub operations_by : Option TypeDefinition → Operations
operations_by None = no_operations
operations_by (Some (definition.Record name parts components finalization)) = operations_in finalization
operations_by (Some (definition.Access name designated pool)) = no_operations
operations_by (Some (definition.Object record_type)) = no_operations

-- The same of the record type that has this number among those that have controlled parts.
abbrev pub operations_of : List TypeDefinition → (number : ℕ) → Operations
operations_of types n = operations_by (type_numbered types n)

-- No type overrides an operation.
abbrev pub OverridesNothing : List TypeDefinition → Type 0
OverridesNothing types = (n : ℕ) → operations_of types n ≡ no_operations

-- The number of a procedure, if there is one.
abbrev pub procedure_number : Option ProcedureNo → Option ℕ
procedure_number None = None
procedure_number (Some procedure) = Some procedure.0

-- Where controlled parts lie in an object: with which elementary component each of them begins, in the order of the numbers of parts.

-- Those of the record type of a number, where those of the types with less numbers are known, the newest first.
abbrev pub firsts_in : (older : List (List ℕ)) → (number : ℕ) → List ℕ
firsts_in [] n = []
firsts_in (firsts ∷ older) n = if n == length older then firsts else firsts_in older n

-- Those of a record that begins with this component.
abbrev pub firsts_from : (older : List (List ℕ)) → (first : ℕ) → Option ℕ → List ℕ
firsts_from older first None = []
firsts_from older first (Some n) = map (λ c. first + c) (firsts_in older n)

-- Those of a declared component.
abbrev pub firsts_of_kind : List TypeDefinition → (older : List (List ℕ)) → (first : ℕ) → PartKind → List ℕ
firsts_of_kind types older first (part.Elementary kind) = []
firsts_of_kind types older first (part.Record t) = firsts_from older first (number_of types (Some t.0))
firsts_of_kind types older first part.Parent = []

-- The controlled record itself begins with the first component.
abbrev pub own_first : (controlled : Bool) → List ℕ
own_first controlled = if controlled then 0 ∷ [] else []

-- Those of a record type of these components.
abbrev pub firsts_by : List TypeDefinition → (older : List (List ℕ)) → List Part → List ℕ
firsts_by types older ps = own_first (has_parent ps) ++ flat_map (λ p. firsts_of_kind types older p.first.0 p.kind) ps

-- Those of the first record types that have controlled parts.
abbrev pub firsts_up_to : List TypeDefinition → (count : ℕ) → List (List ℕ)
firsts_up_to types zero = []
firsts_up_to types (suc n) = firsts_by types (firsts_up_to types n) (parts_by (type_numbered types n)) ∷ firsts_up_to types n

-- Those of an object of the record type of a number, if it has controlled parts.
abbrev pub part_firsts : List TypeDefinition → (number : Option ℕ) → List ℕ
part_firsts types None = []
part_firsts types (Some n) = firsts_in (firsts_up_to types (count_by has_parts types)) n
