-- Incomplete types and access types: what is wrong with each declaration, and what is known after it.

use Rattle.std.specs.Prelude.{ℕ, Bool, false, ◌||◌, ◌==◌, List, [], ◌∷◌, ◌++◌, length, slice_get, slice_set, Option, Some, None, bytes_eq}
use Rattle.ada_text.specs.declared.spot.Spot.{Spot}
use Rattle.ada_tree.specs.Names.{Ident}
use Rattle.ada_tree.specs.Declarations.{AspectTree}
use Rattle.ada_program.specs.ProgramForm.{TypeForm, record_of, access_to, object_of, pool_number}
use Rattle.ada_program.specs.declared.program.PoolNo.{PoolNo}
use Rattle.ada_program.specs.declared.program.TypeNo.{TypeNo}
use Rattle.ada_resolve.specs.declared.fault.NameRule.TheVariants.{WrongType}
use Rattle.ada_resolve.specs.declared.scope.Entity.{Entity}
use Rattle.ada_resolve.specs.declared.scope.Entity.TheVariants as entity
use Rattle.ada_resolve.specs.Known.{Known, named, declared, visible, missing, new_name_remark, type_begins}
use Rattle.ada_resolve.specs.Pools.{aspect_found, aspect_remark}
use Rattle.ada_resolve.specs.Remark.{Remark, fine, wrong, ◌also◌, wrong_if}

-- The incomplete type that a name stands for (3.10.1): a type declaration of that name completes it.
abbrev pub incomplete_of : Option Entity → Option TypeNo
incomplete_of (Some (entity.Incomplete t)) = Some t
incomplete_of (Some other) = None
incomplete_of None = None

-- The incomplete type that a declaration of this name completes, if there is one: it is of the same part (3.10.1).
unfoldable pub completed_type : Known → Ident → Option TypeNo
completed_type known name = incomplete_of (named name.text known.here.names)

-- The record type that a name stands for, complete or not (3.8, 3.10.1).
abbrev pub record_in : Option Entity → Option TypeNo
record_in (Some (entity.Incomplete t)) = Some t
record_in (Some (entity.Record t size)) = Some t
record_in (Some other) = None
record_in None = None

-- The record type of a name, or `None` where something is wrong.
unfoldable pub record_found : Known → Ident → Option TypeNo
record_found known name = record_in (visible known name.text)

-- A record type is wanted: another thing of that name is of the wrong kind (8.6).
abbrev pub record_wanted : Option Entity → Ident → Remark
record_wanted (Some (entity.Incomplete t)) name = fine
record_wanted (Some (entity.Record t size)) name = fine
record_wanted (Some other) name = wrong name.spot WrongType
record_wanted None name = missing None name

-- What is wrong with a name where a record type is wanted.
unfoldable pub record_remark : Known → Ident → Remark
record_remark known name = record_wanted (visible known name.text) name

-- The complete record type that a name stands for, if it stands for one.
abbrev pub complete_in : Option Entity → Option TypeNo
complete_in (Some (entity.Record t size)) = Some t
complete_in (Some other) = None
complete_in None = None

-- The complete record type of a name, or `None` where something is wrong.
unfoldable pub complete_found : Known → Ident → Option TypeNo
complete_found known name = complete_in (visible known name.text)

-- A complete record type is wanted: another thing of that name is of the wrong kind (8.6).
abbrev pub complete_type_wanted : Option Entity → Ident → Remark
complete_type_wanted (Some (entity.Record t size)) name = fine
complete_type_wanted (Some other) name = wrong name.spot WrongType
complete_type_wanted None name = missing None name

-- What is wrong with a name where a complete record type is wanted (4.7).
unfoldable pub complete_remark : Known → Ident → Remark
complete_remark known name = complete_type_wanted (visible known name.text) name

-- Whether an access type designates the record type (3.10).
abbrev pub is_access_to : Option TypeForm → ℕ → Bool
is_access_to (Some (access_to name designated pool)) wanted = designated == wanted
is_access_to (Some (record_of name parts components finalization)) wanted = false
is_access_to (Some (object_of record_type)) wanted = false
is_access_to None wanted = false

-- Whether an access type, by its number, designates the record type.
unfoldable pub designates : List TypeForm → ℕ → ℕ → Bool
designates types access wanted = is_access_to (slice_get types access) wanted

-- Whether an access type of these designates the type.
abbrev pub is_designated : ℕ → List TypeForm → Bool
is_designated t [] = false
is_designated t (record_of name parts components finalization ∷ types) = is_designated t types
is_designated t (access_to name designated pool ∷ types) = designated == t || is_designated t types
is_designated t (object_of record_type ∷ types) = is_designated t types

-- The number of the type that a declaration defines: that of the incomplete type that it completes, else the next.
abbrev pub number_of : Option TypeNo → List TypeForm → TypeNo
number_of (Some t) types = t
number_of None types = record { 0 = length types }

-- The types once a declaration has defined its own.
abbrev pub defined : Option TypeNo → TypeForm → List TypeForm → List TypeForm
defined (Some t) form types = slice_set types t.0 form
defined None form types = types ++ form ∷ []

-- What is known once a declaration has defined its type: a new one, or the one that it completes.
abbrev pub with_definition : Option TypeNo → TypeForm → Known → Known
with_definition completes form known = record known { types = defined completes form known.types }

-- A new name is wanted, except where an incomplete type is completed.
abbrev pub new_unless : Option TypeNo → Remark → Remark
new_unless (Some t) remark = fine
new_unless None remark = remark

-- `type T;` (3.10.1): it begins as a type, and its name is new.
abbrev pub incomplete_remark : Known → Spot → Ident → Remark
incomplete_remark known spot name = type_begins known spot also new_name_remark known name spot

-- After it a record type is known whose components are still to come.
abbrev pub incomplete_known : Known → Ident → Known
incomplete_known known name =
    declared (record known { types = known.types ++ record_of name.text [] [] None ∷ [] }) name.text
    (entity.Incomplete (record { 0 = length known.types }))

-- An access type may complete an incomplete type that no access type designates, itself included.
abbrev pub completion_remark : Option TypeNo → Known → Ident → Ident → Remark
completion_remark (Some t) known name designated =
    wrong_if (is_designated t.0 known.types) name.spot WrongType also wrong_if (bytes_eq designated.text name.text) name.spot WrongType
completion_remark None known name designated = fine

-- `type A is access T with Storage_Pool => P;` (3.10, 13.11): its name is new or completes such a type, it designates a record type, and where it has an
-- aspect, that names a pool.
abbrev pub access_remark : Known → Spot → Ident → Ident → Option AspectTree → Remark
access_remark known spot name designated aspect =
    type_begins known spot also
    completion_remark (completed_type known name) known name designated also
    new_unless (completed_type known name) (new_name_remark known name spot) also
    record_remark known designated also
    aspect_remark known aspect

-- After it the access type is known, with the pool of its aspect, where it has one.
abbrev pub access_defined : Known → Ident → (completes record_type : Option TypeNo) → (pool : Option PoolNo) → Known
access_defined known name completes (Some record_type) pool =
    declared (record known { types = defined completes (access_to name.text record_type.0 (pool_number pool)) known.types }) name.text
    (entity.Access (number_of completes known.types))
access_defined known name completes None pool = known

-- What is known after the declaration of an access type.
abbrev pub access_known : Known → Ident → Ident → Option AspectTree → Known
access_known known name designated aspect =
    access_defined known name (completed_type known name) (record_found known designated) (aspect_found known aspect)
