-- Which procedures or types are marked, what frugal bodies go by, as the code holds it, and which record types have which number.

use Rattle.std.specs.Prelude.{◌≡◌, ◌<◌, ℕ, Bool, false, List, length, count_by, Option, Some, None}
use Rattle.std.specs.List.{slice_index_or, slice_set}
use Rattle.ada_program.specs.declared.program.TypeDefinition.{TypeDefinition}
use Rattle.ada_program.specs.Controlled.{number_by, type_numbered, has_parts}
use Rattle.ada_program.specs.Kept.{types_in}
use Rattle.ada_quiet.specs.declared.frugal.Thrift.{Thrift as HeldThrift}
use Rattle.ada_quiet.specs.Frugal.{Thrift}

-- The procedure or the type of a number is marked. None behind the last mark is.
abbrev pub is_marked : (marks : List Bool) → (number : ℕ) → Bool
is_marked marks number = slice_index_or marks number false

-- What frugal bodies go by, as the code holds it: the types, which record types override no Adjust and no Finalize, whether no Adjust tracks, which procedures
-- have frugal bodies where they are called, whether the body is that of an operation, and how many formal parameters it has.
abbrev pub thrift_in : HeldThrift → Thrift
thrift_in held = record {
  types = types_in held.types.now;
  unadjusted = held.unadjusted.now;
  unfinalized = held.unfinalized.now;
  untracked = held.untracked;
  procedures = held.procedures.now;
  operation = held.operation;
  formals = held.formals;
}

-- Each place of a table has the record type of that number among those with controlled parts, if there is one (7.6).
abbrev pub HasTypes : List TypeDefinition → (table : List (Option TypeDefinition)) → Type 0
HasTypes types table = (n : ℕ) → n < length table → slice_index_or table n None ≡ type_numbered types n

-- And it has a place for each of these numbers.
pub record IsNumbered (types : List TypeDefinition) (table : List (Option TypeDefinition)) : Type 0 where
  pub known : HasTypes types table
  pub count : length table ≡ count_by has_parts types

-- A table once a type has come to the place of its number, if it has a number, and that has a place.
abbrev pub placed : Option ℕ → TypeDefinition → List (Option TypeDefinition) → List (Option TypeDefinition)
placed None t table = table
placed (Some n) t table = slice_set table n (Some t)

-- So it is with a type and its own number.
abbrev pub entered : TypeDefinition → List (Option TypeDefinition) → List (Option TypeDefinition)
entered t table = placed (number_by (Some t)) t table
