-- Types that are derived from one of Ada.Finalization: what is wrong with a declaration, and what is known after it.

use Rattle.std.specs.Prelude.{ℕ, Bool, true, false, if◌then◌else◌, List, [], ◌∷◌, Option, Some, None}
use Rattle.ada_text.specs.declared.spot.Spot.{Spot}
use Rattle.ada_tree.specs.Names.{Ident, NameTree}
use Rattle.ada_tree.specs.Records.{RecordTree}
use Rattle.ada_program.specs.ProgramForm.{PartForm}
use Rattle.ada_program.specs.declared.program.PartKind.TheVariants as part
use Rattle.ada_program.specs.declared.program.TypeNo.{TypeNo}
use Rattle.ada_resolve.specs.declared.fault.NameRule.TheVariants.{WrongType}
use Rattle.ada_resolve.specs.declared.library.LibraryName.{LibraryName}
use Rattle.ada_resolve.specs.declared.library.LibraryName.TheVariants.{Controlled, LimitedControlled}
use Rattle.ada_resolve.specs.Instances.{with_number}
use Rattle.ada_resolve.specs.Known.{Known, library_found, library_remark, missing, new_name_remark, type_begins, visible}
use Rattle.ada_resolve.specs.declared.scope.Entity.{Entity}
use Rattle.ada_resolve.specs.Library.{is_library_root}
use Rattle.ada_resolve.specs.Records.{Composition, components_remark, components_written, composed, with_record}
use Rattle.ada_resolve.specs.Remark.{Remark, fine, wrong, ◌also◌}
use Rattle.ada_resolve.specs.Types.{completed_type, new_unless, number_of}

-- A type is derived from Controlled or Limited_Controlled (7.6): another name of the library is of the wrong kind (8.6).
abbrev pub parent_wanted : Option LibraryName → Spot → Remark
parent_wanted (Some Controlled) spot = fine
parent_wanted (Some LimitedControlled) spot = fine
parent_wanted (Some other) spot = wrong spot WrongType
parent_wanted None spot = fine

-- No declared name stands for such a parent, not even a derived type's: it is of the wrong kind (8.6).
abbrev pub no_parent : Option Entity → Ident → Remark
no_parent (Some entity) name = wrong name.spot WrongType
no_parent None name = missing None name

-- What is wrong with the parent of a derived type (3.4).
unfoldable pub parent_remark : Known → NameTree → Remark
parent_remark known parent =
    if is_library_root parent.first.text
    then library_remark known parent.first parent.rest also parent_wanted (library_found known parent.first parent.rest) parent.first.spot
    else no_parent (visible known parent.first.text) parent.first

-- Whether a parent makes a type limited (7.5).
abbrev pub is_limited_parent : Option LibraryName → Bool
is_limited_parent (Some LimitedControlled) = true
is_limited_parent (Some other) = false
is_limited_parent None = false

-- Whether the parent that is named makes a type limited.
unfoldable pub limited_parent : Known → NameTree → Bool
limited_parent known parent = if is_library_root parent.first.text then is_limited_parent (library_found known parent.first parent.rest) else false

-- The parent part of a controlled type (3.4, 7.6), which stands before the components: it has no name, and no component lies in it.
abbrev pub parent_part : PartForm
parent_part = record { name = []; kind = part.Parent; first = 0; part = 0 }

-- What a derived type is made of before its first component.
abbrev pub with_parent : (limited : Bool) → Composition
with_parent limited = record { parts = parent_part ∷ []; kinds = []; size = 0; controlled = 1; limited = limited }

-- `type T is new Ada.Finalization.Controlled with record .. end record;` (3.4, 3.9.1, 7.6): its name is new or completes an incomplete type, its parent is
-- one of Ada.Finalization, and each component is as it should be.
abbrev pub derived_type_remark : Known → Spot → Ident → NameTree → RecordTree → Remark
derived_type_remark known spot name parent definition =
    type_begins known spot also
    new_unless (completed_type known name) (new_name_remark known name spot) also
    parent_remark known parent also
    components_remark known (with_parent (limited_parent known parent)) (components_written definition)

-- The numbers of limited types with that of one more, if it is limited.
abbrev pub limited_with : (limited : Bool) → TypeNo → List ℕ → List ℕ
limited_with true t ts = with_number ts t.0
limited_with false t ts = ts

-- What is known once the type of a number is derived from Limited_Controlled, or from Controlled (7.6).
abbrev pub with_limited : (limited : Bool) → TypeNo → Known → Known
with_limited limited t known = record known { limited = limited_with limited t known.limited }

-- After it the record type is known, and whether it is derived from Limited_Controlled.
abbrev pub derived_type_known : Known → Ident → NameTree → RecordTree → Known
derived_type_known known name parent definition =
    with_limited (limited_parent known parent) (number_of (completed_type known name) known.types)
    (with_record known name (composed known (with_parent (limited_parent known parent)) (components_written definition)))
