-- Instances of Unchecked_Deallocation: what is wrong with each, and what is known after it.

use Rattle.std.specs.List.{list_any}
use Rattle.std.specs.Prelude.{ℕ, zero, suc, Bool, true, false, ◌||◌, ◌==◌, nat_eq, nat_lt, not, if◌then◌else◌, List, [], ◌∷◌, ◌++◌, map, Option, Some, None, slice_get}
use Rattle.ada_text.specs.declared.spot.Spot.{Spot}
use Rattle.ada_program.specs.Form.{DeclarationForm, creates_pool, collects, declares, declares_record}
use Rattle.ada_tree.specs.Names.{Ident, NameTree}
use Rattle.ada_program.specs.ProgramForm.{PartForm, TypeForm, record_of, access_to, object_of}
use Rattle.ada_program.specs.declared.program.ComponentKind.{ComponentKind}
use Rattle.ada_program.specs.declared.program.ComponentKind.TheVariants as component
use Rattle.ada_program.specs.declared.program.PartKind.{PartKind}
use Rattle.ada_program.specs.declared.program.PartKind.TheVariants as part
use Rattle.ada_program.specs.declared.program.TypeNo.{TypeNo}
use Rattle.ada_resolve.specs.declared.fault.NameRule.TheVariants.{WrongType, Layout}
use Rattle.ada_resolve.specs.declared.library.LibraryName.{LibraryName}
use Rattle.ada_resolve.specs.declared.library.LibraryName.TheVariants.{UncheckedDeallocation}
use Rattle.ada_resolve.specs.declared.scope.Entity.{Entity}
use Rattle.ada_resolve.specs.declared.scope.Entity.TheVariants as entity
use Rattle.ada_resolve.specs.Known.{Known, declared, visible, missing, new_name_remark, library_remark, library_found, type_begins, with_elaborated}
use Rattle.ada_resolve.specs.Library.{is_library_root}
use Rattle.ada_resolve.specs.Paths.{designated_of, elementary_of}
use Rattle.ada_resolve.specs.Remark.{Remark, fine, wrong, ◌also◌, wrong_if}
use Rattle.ada_resolve.specs.Types.{record_found, record_remark, designates}

-- The generic of an instance is Ada.Unchecked_Deallocation (12.3, 13.11.2): another unit or another name is of the wrong kind.
abbrev pub deallocation_wanted : Option LibraryName → Spot → Remark
deallocation_wanted (Some UncheckedDeallocation) spot = fine
deallocation_wanted (Some other) spot = wrong spot WrongType
deallocation_wanted None spot = fine

-- A declared name stands for no generic: it is of the wrong kind (8.6).
abbrev pub no_generic : Option Entity → Ident → Remark
no_generic (Some entity) name = wrong name.spot WrongType
no_generic None name = missing None name

-- What is wrong with the generic that an instance names.
unfoldable pub generic_remark : Known → NameTree → Remark
generic_remark known generic =
    if is_library_root generic.first.text
    then library_remark known generic.first generic.rest also deallocation_wanted (library_found known generic.first generic.rest) generic.first.spot
    else no_generic (visible known generic.first.text) generic.first

-- The record type of an instance is complete there (13.11.2, 3.10.1).
abbrev pub complete_wanted : Option Entity → Spot → Remark
complete_wanted (Some (entity.Incomplete t)) spot = wrong spot WrongType
complete_wanted (Some other) spot = fine
complete_wanted None spot = fine

-- The access type of an instance designates its record type, where that is known.
abbrev pub designates_if_known : List TypeForm → ℕ → Option TypeNo → Bool
designates_if_known types access (Some record_type) = designates types access record_type.0
designates_if_known types access None = true

-- The access type, if the test holds.
abbrev pub access_if : Bool → TypeNo → Option TypeNo
access_if true t = Some t
access_if false t = None

-- The access type that a name stands for, where it designates the record type.
abbrev pub access_in : Option Entity → List TypeForm → Option TypeNo → Option TypeNo
access_in (Some (entity.Access t)) types record_type = access_if (designates_if_known types t.0 record_type) t
access_in (Some other) types record_type = None
access_in None types record_type = None

-- The access type of an instance, or `None` where something is wrong.
unfoldable pub freed_found : Known → Ident → Option TypeNo → Option TypeNo
freed_found known access record_type = access_in (visible known access.text) known.types record_type

-- An access type is wanted that designates the record type (8.6).
abbrev pub access_wanted : Option Entity → List TypeForm → Option TypeNo → Ident → Remark
access_wanted (Some (entity.Access t)) types record_type name = wrong_if (not (designates_if_known types t.0 record_type)) name.spot WrongType
access_wanted (Some other) types record_type name = wrong name.spot WrongType
access_wanted None types record_type name = missing None name

-- What is wrong with the access type of an instance.
unfoldable pub freed_remark : Known → Ident → Option TypeNo → Remark
freed_remark known access record_type = access_wanted (visible known access.text) known.types record_type access

-- Whether the collection of an access type is created already (7.6.1): an instance creates it, or the first object does.
abbrev pub is_collected : ℕ → List DeclarationForm → Bool
is_collected access [] = false
is_collected access (creates_pool pool ∷ es) = is_collected access es
is_collected access (collects t ∷ es) = t == access || is_collected access es
is_collected access (declares place value ∷ es) = is_collected access es
is_collected access (declares_record place object initial ∷ es) = is_collected access es

-- The access type that a name stands for, whatever it designates.
abbrev pub access_type_in : Option Entity → Option TypeNo
access_type_in (Some (entity.Access t)) = Some t
access_type_in (Some other) = None
access_type_in None = None

-- An access type has at most one instance (the profile's), whatever else is wrong with the second one.
abbrev pub one_instance : Option TypeNo → List DeclarationForm → Spot → Remark
one_instance (Some t) elaborated spot = wrong_if (is_collected t.0 elaborated) spot Layout
one_instance None elaborated spot = fine

-- An instance frees objects of an access type of its own part, the first type of which has this number (the profile's): the collection is
-- created where the instance is.
abbrev pub own_type : Option TypeNo → ℕ → Spot → Remark
own_type (Some t) first_type spot = wrong_if (nat_lt t.0 first_type) spot Layout
own_type None first_type spot = fine

-- `procedure Free is new Ada.Unchecked_Deallocation (T, A);` (13.11.2): a new name, the generic, a complete record type, and an access type
-- to it, of the same part, that has no other instance.
abbrev pub instance_remark : Known → Spot → Ident → NameTree → Ident → Ident → Remark
instance_remark known spot name generic object access =
    type_begins known spot also
    new_name_remark known name spot also
    generic_remark known generic also
    record_remark known object also
    complete_wanted (visible known object.text) object.spot also
    freed_remark known access (record_found known object) also
    one_instance (access_type_in (visible known access.text)) known.here.elaborated spot also
    own_type (access_type_in (visible known access.text)) known.here.first_type spot

-- Whether a number is among these.
abbrev pub is_among : ℕ → List ℕ → Bool
is_among n ns = list_any (nat_eq n) ns

-- Numbers with one more, unless it is among them.
abbrev pub with_number : List ℕ → ℕ → List ℕ
with_number ns n = if is_among n ns then ns else ns ++ n ∷ []

-- The numbers with that of the access type of an elementary component.
abbrev pub with_component_frozen : ComponentKind → List ℕ → List ℕ
with_component_frozen (component.Access access) frozen = with_number frozen access.0
with_component_frozen (component.Integer n) frozen = frozen
with_component_frozen (component.Boolean b) frozen = frozen

-- The numbers with those of the access types of elementary components, in order.
abbrev pub with_components_frozen : List ComponentKind → List ℕ → List ℕ
with_components_frozen [] frozen = frozen
with_components_frozen (kind ∷ kinds) frozen = with_components_frozen kinds (with_component_frozen kind frozen)

-- The elementary components of a record type, at any depth, where it is known.
abbrev pub components_behind : List TypeForm → Option ℕ → List ComponentKind
components_behind types (Some t) = elementary_of types t
components_behind types None = []

-- What a declared component is.
abbrev pub kind_of_part : PartForm → PartKind
kind_of_part c = c.kind

-- What the declared components of a record type are, where it has controlled parts (7.6).
abbrev pub kinds_declared : Option TypeForm → List PartKind
kinds_declared (Some (record_of name parts components (Some finalization))) = map kind_of_part parts
kinds_declared (Some (record_of name parts components None)) = []
kinds_declared (Some (access_to name designated pool)) = []
kinds_declared (Some (object_of record_type)) = []
kinds_declared None = []

-- The numbers with that of the record type that a component is, and those that come with it.
abbrev pub with_kind_frozen : (ℕ → List ℕ → List ℕ) → PartKind → List ℕ → List ℕ
with_kind_frozen freeze (part.Record t) frozen = freeze t.0 frozen
with_kind_frozen freeze (part.Elementary kind) frozen = frozen
with_kind_frozen freeze part.Parent frozen = frozen

-- The numbers with those of the record types that declared components are, in order.
abbrev pub with_kinds_frozen : (ℕ → List ℕ → List ℕ) → List PartKind → List ℕ → List ℕ
with_kinds_frozen freeze [] frozen = frozen
with_kinds_frozen freeze (kind ∷ kinds) frozen = with_kinds_frozen freeze kinds (with_kind_frozen freeze kind frozen)

-- The numbers with that of a record type and those of its parts at any depth, unless it is among them; as many levels deep. A type with controlled parts
-- is completed behind those of its components, so no more levels are wanted than such types are known (7.6).
unfoldable pub with_record_frozen : List TypeForm → (levels : ℕ) → ℕ → List ℕ → List ℕ
with_record_frozen types zero t frozen = frozen
with_record_frozen types (suc n) t frozen =
    if is_among t frozen then frozen else
    with_kinds_frozen (with_record_frozen types n) (kinds_declared (slice_get types t)) (with_number frozen t)

-- The numbers with those of the record type that is designated, and of its parts, where it is known.
abbrev pub with_designated_frozen : List TypeForm → (levels : ℕ) → Option ℕ → List ℕ → List ℕ
with_designated_frozen types levels (Some t) frozen = with_record_frozen types levels t frozen
with_designated_frozen types levels None frozen = frozen

-- What an instance freezes (13.14): its access type, and those of the components of what that designates, at any depth; and the record type that it
-- designates, and those of the components of that, at any depth.
abbrev pub frozen_by : List TypeForm → (levels : ℕ) → ℕ → List ℕ → List ℕ
frozen_by types levels access frozen =
    with_designated_frozen types levels (designated_of types access)
    (with_components_frozen (components_behind types (designated_of types access)) (with_number frozen access))

-- What is known once an instance for this access type is behind.
abbrev pub with_frozen : ℕ → Known → Known
with_frozen access known = record known { frozen = frozen_by known.types known.controlled access known.frozen }

-- After it the collection of the access type is created (the profile's place for it), and the instance is known.
abbrev pub instance_of : Known → Ident → Option TypeNo → Known
instance_of known name (Some t) = declared (with_frozen t.0 (with_elaborated (collects t.0 ∷ []) known)) name.text (entity.Instance t)
instance_of known name None = known

-- What is known after an instance.
abbrev pub instance_known : Known → Ident → Ident → Ident → Known
instance_known known name object access = instance_of known name (freed_found known access (record_found known object))
