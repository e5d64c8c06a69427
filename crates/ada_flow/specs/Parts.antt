-- Which access types designate objects with a part of a record type, at any depth (3.8, 3.10).

use Rattle.std.specs.Prelude.{◌≡◌, ◌↔◌, ℕ, Bool, true, false, ◌&&◌, List, length, Option, Some, None}
use Rattle.std.specs.List.{list_any, range_with_len}
use Rattle.ada_program.specs.Parts.{has_part_within, HasPart}
use Rattle.ada_program.specs.ProgramForm.{TypeForm}
use Rattle.ada_program.specs.WellFormed.{designated_type, is_record}

-- Have objects of a type a part of a record type at any depth? Records are nested no deeper than there are types.
abbrev pub has_part : List TypeForm → (record_type whole : ℕ) → Bool
has_part types r whole = is_record types r && has_part_within types (length types) r whole

-- No part lies deeper than there are types.
abbrev pub DepthsAreEnough : Type 0
DepthsAreEnough = (types : List TypeForm) (r whole : ℕ) → is_record types r ≡ true → (has_part types r whole ≡ true) ↔ HasPart types r whole

-- Have the objects that an access type designates (3.10) a part of this record type?
abbrev pub designates_part : List TypeForm → (record_type : ℕ) → (designated : Option ℕ) → Bool
designates_part types r None = false
designates_part types r (Some whole) = has_part types r whole

-- Have those that one of some access types designates?
abbrev pub designate_part : List TypeForm → (accesses : ℕ → Bool) → (record_type : ℕ) → Bool
designate_part types among r = list_any (λ t. among t && designates_part types r (designated_type types t)) (range_with_len 0 (length types))
