-- The record types of a program that have controlled parts, in tables by their numbers.

use Rattle.std.specs.Prelude.{◌≡◌, ℕ, zero, suc, ◌+◌, ◌<◌, Bool, nat_lt, if◌then◌else◌, List, [], ◌∷◌, ◌++◌, length, map, count_by, Option, Some, None}
use Rattle.std.specs.List.{slice_index_or, slice_set}
use Rattle.ada_program.specs.declared.program.TypeDefinition.{TypeDefinition}
use Rattle.ada_program.specs.declared.program.Part.{Part}
use Rattle.ada_program.specs.declared.program.PartKind.{PartKind}
use Rattle.ada_program.specs.declared.program.PartKind.TheVariants as part
use Rattle.ada_program.specs.Controlled.{number_by, number_of, type_numbered, parts_by, has_parent, has_parts, firsts_from, firsts_up_to}
use Rattle.ada_meaning.specs.Heap.{PartState}
use Rattle.ada_meaning.specs.Step.{new_part}
use Rattle.ada_interpreter.specs.declared.layouts.Inner.{Inner}
use Rattle.ada_interpreter.specs.declared.layouts.Layout.{Layout as HeldLayout}

-- A table has the type of each number that it has a place for.
abbrev pub HasTypes : List TypeDefinition → (table : List (Option TypeDefinition)) → Type 0
HasTypes types table = (n : ℕ) → n < length table → slice_index_or table n None ≡ type_numbered types n

-- A table has as many places as types have controlled parts, and the type of each of these numbers.
pub record IsNumbered (types : List TypeDefinition) (table : List (Option TypeDefinition)) : Type 0 where
  pub known : HasTypes types table
  pub count : length table ≡ count_by has_parts types

-- A table once a type has come to the place of its number, if it has a number, and that has a place.
abbrev pub placed : Option ℕ → TypeDefinition → List (Option TypeDefinition) → List (Option TypeDefinition)
placed None t table = table
placed (Some n) t table = slice_set table n (Some t)

abbrev pub entered : TypeDefinition → List (Option TypeDefinition) → List (Option TypeDefinition)
entered t table = placed (number_by (Some t)) t table

-- A component that is a record with controlled parts, if it is one.
abbrev pub inner_at : (first : ℕ) → (number : Option ℕ) → List Inner
inner_at first None = []
inner_at first (Some n) = record { first = first; of = n } ∷ []

-- The same of a declared component that begins with this one.
abbrev pub inner_by : List TypeDefinition → (first : ℕ) → PartKind → List Inner
inner_by types first (part.Elementary kind) = []
inner_by types first (part.Record t) = inner_at first (number_of types (Some t.0))
inner_by types first part.Parent = []

-- Those of a record type of these components, in order.
abbrev pub inner_of : List TypeDefinition → List Part → List Inner
inner_of types [] = []
inner_of types (p ∷ ps) = inner_by types p.first.0 p.kind ++ inner_of types ps

-- Where controlled parts lie in the objects of a record type: whether it is controlled itself, and its components that have some.
pub record Layout : Type 0 where
  pub controlled : Bool
  pub inner : List Inner

-- What the code keeps of that.
abbrev pub layout_form : HeldLayout → Layout
layout_form layout = record { controlled = layout.controlled; inner = layout.inner.items }

-- That of a record type of these components.
abbrev pub layout_by : List TypeDefinition → List Part → Layout
layout_by types ps = record { controlled = has_parent ps; inner = inner_of types ps }

-- Those of the first record types that have controlled parts, by their numbers.
abbrev pub layouts_up_to : List TypeDefinition → (count : ℕ) → List Layout
layouts_up_to types zero = []
layouts_up_to types (suc n) = layouts_up_to types n ++ layout_by types (parts_by (type_numbered types n)) ∷ []

-- A table has the layout of each record type that has controlled parts.
abbrev pub AreLaidOut : List TypeDefinition → List HeldLayout → Type 0
AreLaidOut types layouts = map layout_form layouts ≡ layouts_up_to types (count_by has_parts types)

-- The controlled parts of a new record of the type of a number that begins with this component.
abbrev pub parts_from : List TypeDefinition → (base number : ℕ) → List PartState
parts_from types base n = map new_part (firsts_from (firsts_up_to types (count_by has_parts types)) base (Some n))

-- Those of a component, which is entered where its type has a less number.
abbrev pub parts_entered : List TypeDefinition → (base number : ℕ) → Inner → List PartState
parts_entered types base n inner = if nat_lt inner.of n then parts_from types (base + inner.first) inner.of else []

-- Those of these components of a record of the type of a number.
abbrev pub parts_within : List TypeDefinition → (base number : ℕ) → List Inner → List PartState
parts_within types base n [] = []
parts_within types base n (inner ∷ others) = parts_entered types base n inner ++ parts_within types base n others
