-- Record types and access types whose objects are calm: no operation that is asked about is called for them, neither for an object itself nor for a part of it
-- (7.6).

use Rattle.std.specs.Prelude.{ℕ, zero, suc, Bool, true, false, ◌&&◌, if◌then◌else◌, List, [], ◌∷◌, ◌++◌, find, Option, Some, None}
use Rattle.std.specs.List.{list_all, slice_get, slice_index_or}
use Rattle.ada_program.specs.declared.program.Finalization.{Finalization}
use Rattle.ada_program.specs.declared.program.PartKind.{PartKind}
use Rattle.ada_program.specs.declared.program.PartKind.TheVariants as part
use Rattle.ada_program.specs.ProgramForm.{TypeForm, record_of, access_to, object_of, ProgramForm}
use Rattle.ada_program.specs.WellFormed.{finalization_in, finalization_of, has_number, is_inherited, numbered_types}
use Rattle.ada_quiet.specs.Quiet.{is_plain_operation, is_quiet_operation}

-- Neither operation of a type that begins or ends an object touches storage: what overrides Initialize is plain, and what overrides Finalize is quiet (7.6).
abbrev pub ends_calmly : ProgramForm → Option Finalization → Bool
ends_calmly p None = true
ends_calmly p (Some f) = is_plain_operation p f.operations.initialize && is_quiet_operation p f.operations.finalize

-- It is known that a record type is calm, by how its objects are finalized: one without controlled parts is, and of one with some it is told by its number
-- (7.6).
abbrev pub is_known_calm : (calm : List Bool) → Option Finalization → Bool
is_known_calm calm None = true
is_known_calm calm (Some f) = slice_index_or calm f.number.0 false

-- A declared component is no record, or one of a type of which that is known (3.8).
abbrev pub is_calm_part : List TypeForm → (calm : List Bool) → PartKind → Bool
is_calm_part types calm (part.Elementary kind) = true
is_calm_part types calm (part.Record t) = is_known_calm calm (finalization_of types t.0)
is_calm_part types calm part.Parent = true

-- A record type is calm, if its own operations are so, and each of its declared components.
abbrev pub is_calm_type : (own : Bool) → List TypeForm → (calm : List Bool) → TypeForm → Bool
is_calm_type own types calm (record_of name parts components finalization) = own && list_all (λ c. is_calm_part types calm c.kind) parts
is_calm_type own types calm (access_to name designated pool) = false
is_calm_type own types calm (object_of record_type) = false

-- So is a type that was found, where this tells of a type's own operations.
abbrev pub is_calm_found : (own : TypeForm → Bool) → List TypeForm → (calm : List Bool) → Option TypeForm → Bool
is_calm_found own types calm None = false
is_calm_found own types calm (Some t) = is_calm_type (own t) types calm t

-- The record type that has this number among those with controlled parts: types are numbered as they are complete, so each behind those of its components
-- (3.11.1).
abbrev pub type_numbered : List TypeForm → (number : ℕ) → Option TypeForm
type_numbered types n = find (λ t. has_number n (finalization_in (Some t))) types

-- Of the first record types with controlled parts, by these numbers, whether they are calm.
abbrev pub calm_up_to : (own : TypeForm → Bool) → List TypeForm → (count : ℕ) → List Bool
calm_up_to own types zero = []
calm_up_to own types (suc n) = calm_up_to own types n ++ is_calm_found own types (calm_up_to own types n) (type_numbered types n) ∷ []

-- Of all of them.
abbrev pub calm_by : (own : TypeForm → Bool) → List TypeForm → List Bool
calm_by own types = calm_up_to own types (numbered_types types)

-- Of those of a program, where objects begin and end: no operation is called there that touches storage.
abbrev pub calm_types : ProgramForm → List Bool
calm_types p = calm_by (λ t. ends_calmly p (finalization_in (Some t))) p.types

-- A type inherits Finalize, or Adjust, as is asked: no body overrides it (7.6).
abbrev pub inherits : (finalize : Bool) → Option Finalization → Bool
inherits finalize None = true
inherits finalize (Some f) = is_inherited (if finalize then f.operations.finalize else f.operations.adjust)

-- Of those of some types of which this is not overridden, neither of one itself nor of a part of it, at any depth.
abbrev pub inheriting_types : (finalize : Bool) → List TypeForm → List Bool
inheriting_types finalize types = calm_by (λ t. inherits finalize (finalization_in (Some t))) types

-- Of those whose copies are adjusted by nothing that is overridden: where one gets its value from another record, nothing is called behind that (7.6).
abbrev pub unadjusted_types : List TypeForm → List Bool
unadjusted_types types = inheriting_types false types

-- And of those of whose values nothing is finalized by a body: where one ends, nothing is called (7.6, 7.6.1).
abbrev pub unfinalized_types : List TypeForm → List Bool
unfinalized_types types = inheriting_types true types

-- A type is an access type that designates a record type without controlled parts, or a calm one (3.10, 7.6).
abbrev pub is_calm_access : List TypeForm → (calm : List Bool) → Option TypeForm → Bool
is_calm_access types calm None = false
is_calm_access types calm (Some (record_of name parts components finalization)) = false
is_calm_access types calm (Some (access_to name designated pool)) = is_known_calm calm (finalization_of types designated)
is_calm_access types calm (Some (object_of record_type)) = false

-- So is the type of a number.
abbrev pub has_calm_objects : List TypeForm → (calm : List Bool) → (access : ℕ) → Bool
has_calm_objects types calm t = is_calm_access types calm (slice_get types t)

-- The objects of an access type of a program are calm where they begin and end.
abbrev pub are_calm_in : ProgramForm → (access : ℕ) → Bool
are_calm_in p t = has_calm_objects p.types (calm_types p) t
