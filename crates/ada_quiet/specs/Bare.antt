-- Access types whose objects have no controlled parts.

use Rattle.std.specs.Prelude.{ℕ, Bool, false, not, List, Option, Some, None, is_some}
use Rattle.std.specs.List.{slice_get}
use Rattle.ada_program.specs.ProgramForm.{TypeForm, record_of, access_to, object_of}
use Rattle.ada_program.specs.WellFormed.{finalization_of}

-- A type is an access type that designates a record type without controlled parts (3.10, 7.6).
abbrev pub is_bare_access : List TypeForm → Option TypeForm → Bool
is_bare_access types None = false
is_bare_access types (Some (record_of name parts components finalization)) = false
is_bare_access types (Some (access_to name designated pool)) = not (is_some (finalization_of types designated))
is_bare_access types (Some (object_of record_type)) = false

-- So is the type of a number: its objects are bare, they have no controlled parts.
abbrev pub has_bare_objects : List TypeForm → (access : ℕ) → Bool
has_bare_objects types t = is_bare_access types (slice_get types t)
