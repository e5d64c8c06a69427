-- Which operations of controlled types are in use.

use Rattle.std.specs.Prelude.{ℕ, ◌+◌, Bool, true, not, ◌&&◌, ◌||◌, ◌==◌, if◌then◌else◌, List, [], ◌∷◌, length, Option, Some, None, is_some}
use Rattle.std.specs.List.{list_all, list_any}
use Rattle.ada_program.specs.declared.program.ComponentKind.{ComponentKind}
use Rattle.ada_program.specs.declared.program.Finalization.{Finalization}
use Rattle.ada_program.specs.declared.program.PartKind.{PartKind}
use Rattle.ada_program.specs.declared.program.ProcedureNo.{ProcedureNo}
use Rattle.ada_program.specs.ProgramForm.{PartForm, TypeForm, record_of, access_to, object_of, ProgramForm}
use Rattle.ada_program.specs.WellFormed.{finalization_in, components_within, is_parent, is_inherited}
use Rattle.ada_quiet.specs.Quiet.{is_quiet_operation, is_plain_operation, has_access, operation_body}
use Rattle.ada_quiet.specs.Frugal.{is_frugal_operation}
use Rattle.ada_quiet.specs.Simple.{is_simple_operation}
use Rattle.ada_quiet.specs.Apart.{leave_access, operations_stand_apart}
use Rattle.ada_quiet.specs.Idle.{makes_parts, copies_parts}
use Rattle.ada_quiet.specs.Mixed.{untracked_types, tracked_or_quiet_types, is_unmixed}

-- An Initialize and a Finalize may be frugal in a program in which operations stand apart: so an Initialize is called where an object is declared or allocated
-- (7.6), and a Finalize where an object's master is left, an exception comes out of the initialization of one (7.6.1), another record is assigned to it, or a
-- variable or a component is freed that names it (13.11.2). While a master is left, its collections go one after the other, and components may name what has
-- gone: by S8 no operation that is called then follows or frees such a value, since it uses collections alone that go later (7.6.1).
abbrev pub may_be_frugal : ProgramForm → Bool
may_be_frugal p = operations_stand_apart p

-- How many components there are, if they are those of something.
abbrev pub count_found : Option (List ComponentKind) → ℕ
count_found None = 0
count_found (Some components) = length components

-- How many elementary components a declared component has (3.8): one, or as many as its record type. The parent part has none (7.6).
abbrev pub size_of_part : List TypeForm → PartKind → ℕ
size_of_part types kind = count_found (components_within types kind)

-- The elementary components of declared components stand one behind another, from a number on, up to their count (3.8). The parent part has none, wherever it
-- stands.
abbrev pub stand_in_a_row : List TypeForm → (from : ℕ) → List PartForm → (count : ℕ) → Bool
stand_in_a_row types from [] count = from == count
stand_in_a_row types from (p ∷ ps) count =
    (is_parent p.kind || (p.first == from)) && stand_in_a_row types (from + size_of_part types p.kind) ps count

-- A type overrides no Adjust, or it is controlled itself: it has the parent part (7.6).
abbrev pub adjusts_itself : List PartForm → Option Finalization → Bool
adjusts_itself parts None = true
adjusts_itself parts (Some f) = is_inherited f.operations.adjust || list_any (λ c. is_parent c.kind) parts

-- All elementary components of a record are those of its declared components, one behind another, and where its type overrides Adjust, the record itself is
-- adjusted (3.8, 7.6).
abbrev pub is_copied_in_order : List TypeForm → TypeForm → Bool
is_copied_in_order types (record_of name parts components finalization) = stand_in_a_row types 0 parts (length components) && adjusts_itself parts finalization
is_copied_in_order types (access_to name designated pool) = true
is_copied_in_order types (object_of record_type) = true

-- An Adjust may track its components in a program in which a Finalize may be frugal, and each record's components stand in order. A variable or a component may
-- name the object that is adjusted: by S8 the body follows no such value and frees none.
abbrev pub may_track : ProgramForm → Bool
may_track p = may_be_frugal p && list_all (is_copied_in_order p.types) p.types

-- Finalize is quiet, or frugal, where it may be.
abbrev pub uses_finalize : ProgramForm → Option ProcedureNo → Bool
uses_finalize p finalize = is_quiet_operation p finalize || (may_be_frugal p && is_frugal_operation p finalize)

-- Initialize is plain, or frugal, where it may be; an exception may come out of it, behind which what has begun is finalized (7.6.1).
abbrev pub uses_initialize : ProgramForm → Option ProcedureNo → Bool
uses_initialize p initialize = is_plain_operation p initialize || (may_be_frugal p && is_frugal_operation p initialize)

-- Operations stand in order: they stand apart, so that no body calls an Adjust that tracks, and the components of each record stand in order.
abbrev pub operations_stand_in_order : ProgramForm → Bool
operations_stand_in_order p = operations_stand_apart p && list_all (is_copied_in_order p.types) p.types

-- No Adjust is called in a program that copies no record with controlled parts (7.6).
abbrev pub adjusts_nothing : ProgramForm → Bool
adjusts_nothing p = not (copies_parts p) && operations_stand_in_order p

-- No Adjust of a program tracks.
abbrev pub tracks_nothing : ProgramForm → Bool
tracks_nothing p = leave_access p.types

-- Where an Adjust touches storage and does not track, none tracks in the same copy: no Adjust of the program tracks, or no record type has parts of both kinds.
abbrev pub tracks_beside_none : ProgramForm → Bool
tracks_beside_none p =
    tracks_nothing p || list_all (λ t. is_unmixed (untracked_types p.types) (tracked_or_quiet_types p) (finalization_in (Some t))) p.types

-- An Adjust that does not track may be frugal in a program in which an Initialize and a Finalize may be, and none tracks beside it.
abbrev pub may_adjust_frugally : ProgramForm → Bool
may_adjust_frugally p = may_be_frugal p && tracks_beside_none p

-- Where one may be called, Adjust is simple, where it may track, if a body overrides it of a type that declares a component of an access type directly (3.10,
-- 7.6): behind it that component of a copy holds a value of its own, or null. Of another type it is quiet, or frugal, where it may be.
abbrev pub uses_called_adjust : ProgramForm → (owns : Bool) → Option ProcedureNo → Bool
uses_called_adjust p owns adjust =
    if owns && is_some (operation_body p adjust)
    then may_track p && is_simple_operation p adjust
    else is_quiet_operation p adjust || (may_adjust_frugally p && is_frugal_operation p adjust)

-- So Adjust is in use; and where none is called, a frugal one is, too.
abbrev pub uses_adjust : ProgramForm → (owns : Bool) → Option ProcedureNo → Bool
uses_adjust p owns adjust = (adjusts_nothing p && is_frugal_operation p adjust) || uses_called_adjust p owns adjust

-- The operations of a type, which declares such a component or does not, are in use (7.6, 7.6.1).
abbrev pub uses_operations : ProgramForm → (owns : Bool) → Option Finalization → Bool
uses_operations p owns None = true
uses_operations p owns (Some f) =
    uses_initialize p f.operations.initialize && uses_adjust p owns f.operations.adjust && uses_finalize p f.operations.finalize

-- Operations are idle in a program that creates no object with controlled parts and assigns no record with some: none is called where one is created, assigned
-- to, freed or left, whatever its body does.
abbrev pub operations_are_idle : ProgramForm → Bool
operations_are_idle p = not (makes_parts p) && operations_stand_in_order p

-- All that overrides an operation of a controlled type may be called.
abbrev pub operations_may_be_called : ProgramForm → Bool
operations_may_be_called p = list_all (λ t. uses_operations p (has_access (Some t)) (finalization_in (Some t))) p.types

-- All that overrides an operation of a controlled type is in use: it may be called, or none is.
abbrev pub operations_are_in_use : ProgramForm → Bool
operations_are_in_use p = operations_are_idle p || operations_may_be_called p
