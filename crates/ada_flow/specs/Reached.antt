-- The table of the records that finalizations reach, as the code keeps it.

use Rattle.std.specs.Prelude.{◌≡◌, ℕ, Bool, true, false, ◌&&◌, List, [], ◌∷◌, ◌++◌, slice_index_or, Option, Some, None}
use Rattle.std.specs.Global.{Vec}
use Rattle.std.specs.List.{slice_get}
use Rattle.ada_effects.specs.Effects.{Implicit}
use Rattle.ada_flow.specs.Parts.{designate_part}
use Rattle.ada_program.specs.declared.program.PartKind.{PartKind}
use Rattle.ada_program.specs.declared.program.PartKind.TheVariants as part
use Rattle.ada_program.specs.ProgramForm.{PartForm, TypeForm, record_of, access_to, object_of}
use Rattle.ada_program.specs.WellFormed.{designated_type, is_record}

-- The record type of a declared component, if it has one.
abbrev pub type_within : PartKind → List ℕ
type_within (part.Elementary kind) = []
type_within (part.Record t) = t.0 ∷ []
type_within part.Parent = []

-- Those of declared components.
abbrev pub component_types : List PartForm → List ℕ
component_types [] = []
component_types (p ∷ ps) = type_within p.kind ++ component_types ps

-- Those of a type's objects.
abbrev pub types_within : TypeForm → List ℕ
types_within (record_of name parts components finalization) = component_types parts
types_within (access_to name designated pool) = []
types_within (object_of record_type) = []

-- An access type among these designates this type (3.10).
abbrev pub IsDesignated : List TypeForm → (accesses : ℕ → Bool) → (whole : ℕ) → Type 0
IsDesignated types among whole = (t : ℕ) × (among t ≡ true) × (designated_type types t ≡ Some whole)

-- Is a record type marked in a row?
abbrev pub is_in_row : Option (Vec Bool) → (record_type : ℕ) → Bool
is_in_row None r = false
is_in_row (Some row) r = slice_index_or row.items r false

-- A row has the record types that are, or lie in, what access types designate.
abbrev pub IsRow : List TypeForm → (accesses : ℕ → Bool) → Option (Vec Bool) → Type 0
IsRow types among row = (r : ℕ) → (is_record types r && is_in_row row r) ≡ designate_part types among r

-- There is one for each type, with what the finalization of its objects reaches.
abbrev pub AreRows : List TypeForm → Implicit → List (Vec Bool) → Type 0
AreRows types implicit rows = (u : ℕ) → IsRow types (implicit.end_reaches u) (slice_get rows u)
