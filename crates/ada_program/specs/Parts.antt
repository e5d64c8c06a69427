-- Which records lie in which: the parts of the objects of a record type, at any depth (3.8).

use Rattle.std.specs.Prelude.{◌≡◌, ℕ, zero, suc, Bool, true, false, ◌||◌, ◌==◌, List, Option, Some, None}
use Rattle.std.specs.List.{list_any, slice_get}
use Rattle.ada_program.specs.declared.program.PartKind.{PartKind}
use Rattle.ada_program.specs.declared.program.PartKind.TheVariants as part
use Rattle.ada_program.specs.ProgramForm.{TypeForm, record_of, access_to, object_of}

-- Is a declared component a record of one of some types?
abbrev pub is_record_among : (types : ℕ → Bool) → PartKind → Bool
is_record_among among (part.Elementary kind) = false
is_record_among among (part.Record t) = among t.0
is_record_among among part.Parent = false

-- Has a record type a component of one of some types?
abbrev pub has_component_among : (types : ℕ → Bool) → Option TypeForm → Bool
has_component_among among None = false
has_component_among among (Some (record_of name parts components finalization)) = list_any (λ c. is_record_among among c.kind) parts
has_component_among among (Some (access_to name designated pool)) = false
has_component_among among (Some (object_of record_type)) = false

-- Have objects of a type a part of this record type at most so many components deep? They are of it themselves, or a component has such a part.
abbrev pub has_part_within : List TypeForm → (depth record_type whole : ℕ) → Bool
has_part_within types zero r whole = whole == r
has_part_within types (suc n) r whole = (whole == r) || has_component_among (has_part_within types n r) (slice_get types whole)

-- Objects of a type have a part of a record type, however deep.
pub data HasPart (types : List TypeForm) (record_type : ℕ) : (whole : ℕ) → Type 0 where
  itself : HasPart types record_type record_type
  within : {component whole : ℕ} → HasPart types record_type component
      → has_component_among (λ t. t == component) (slice_get types whole) ≡ true → HasPart types record_type whole
