-- What the types of a program give: the type that one designates, the components of its objects, and how many words those take.

use Rattle.std.specs.Prelude.{ℕ, List, length, Option, Some, None}
use Rattle.std.specs.List.{slice_get}
use Rattle.ada_program.specs.declared.program.ComponentKind.{ComponentKind}
use Rattle.ada_program.specs.declared.program.TypeDefinition.{TypeDefinition}
use Rattle.ada_program.specs.declared.program.TypeDefinition.TheVariants as definition
use Rattle.ada_program.specs.ProgramForm.{pool_number}

-- The record type of the objects that values of a type name (3.10): those that an access type designates, or the one record object that is known by
-- the type. None, if it is a record type.
abbrev pub designated_by : Option TypeDefinition → Option ℕ
designated_by None = None
designated_by (Some (definition.Record name parts components finalization)) = None
designated_by (Some (definition.Access name designated pool)) = Some designated.0
designated_by (Some (definition.Object record_type)) = Some record_type.0

-- The record type of the objects that values of the type of a number name (3.10).
abbrev pub designated_of : List TypeDefinition → ℕ → Option ℕ
designated_of types t = designated_by (slice_get types t)

-- The declared pool of the objects of an access type (13.11): none, where it is the standard pool.
abbrev pub pool_by : Option TypeDefinition → Option ℕ
pool_by None = None
pool_by (Some (definition.Record name parts components finalization)) = None
pool_by (Some (definition.Access name designated pool)) = pool_number pool
pool_by (Some (definition.Object record_type)) = None

-- The declared pool of the access type of a number (13.11).
abbrev pub pool_named : List TypeDefinition → ℕ → Option ℕ
pool_named types access = pool_by (slice_get types access)

-- The elementary components of a record type, in order (3.8): none, if it is no record type.
abbrev pub components_by : Option TypeDefinition → Option (List ComponentKind)
components_by None = None
components_by (Some (definition.Record name parts components finalization)) = Some components.items
components_by (Some (definition.Access name designated pool)) = None
components_by (Some (definition.Object record_type)) = None

-- The components of the record type of a number (3.8).
abbrev pub components_of : List TypeDefinition → ℕ → Option (List ComponentKind)
components_of types t = components_by (slice_get types t)

-- The components of the objects that an access type's values name.
abbrev pub reached_by : List TypeDefinition → Option ℕ → Option (List ComponentKind)
reached_by types None = None
reached_by types (Some t) = components_of types t

-- The components of the objects that the values of an access type designate.
abbrev pub reached_of : List TypeDefinition → ℕ → Option (List ComponentKind)
reached_of types access = reached_by types (designated_of types access)

-- How many words an object takes that an access type's values name: one for each component (13.11).
abbrev pub count_of : Option (List ComponentKind) → ℕ
count_of None = 0
count_of (Some components) = length components

-- How many words an object takes that the values of an access type designate (13.11).
abbrev pub words_of : List TypeDefinition → ℕ → ℕ
words_of types access = count_of (reached_of types access)

-- How many elementary components a record type has: none, if it is no record type.
abbrev pub width_of : List TypeDefinition → ℕ → ℕ
width_of types t = count_of (components_of types t)
