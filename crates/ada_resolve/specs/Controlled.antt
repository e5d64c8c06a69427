-- Controlled parts of records (7.6): where there are any, no aggregate gives a record its components, and limited records are not copied.

use Rattle.std.specs.Prelude.{ℕ, Bool, false, List, Option, Some, None, is_some}
use Rattle.ada_text.specs.declared.spot.Spot.{Spot}
use Rattle.ada_program.specs.ProgramForm.{TypeForm}
use Rattle.ada_program.specs.WellFormed.{finalization_of}
use Rattle.ada_program.specs.declared.program.Finalization.{Finalization}
use Rattle.ada_program.specs.declared.program.PartKind.{PartKind}
use Rattle.ada_program.specs.declared.program.PartKind.TheVariants as part
use Rattle.ada_program.specs.declared.program.TypeNo.{TypeNo}
use Rattle.ada_resolve.specs.declared.fault.NameRule.TheVariants.{WrongType}
use Rattle.ada_resolve.specs.Paths.{Meant, record_value}
use Rattle.ada_resolve.specs.Remark.{Remark, fine, wrong_if}

-- Whether a record type is limited (7.5), by how its objects are finalized: one without controlled parts is not.
abbrev pub says_limited : Option Finalization → Bool
says_limited None = false
says_limited (Some finalization) = finalization.limited

-- Whether the record type of a number is limited.
abbrev pub is_limited : List TypeForm → ℕ → Bool
is_limited types t = says_limited (finalization_of types t)

-- Whether a component makes its record type limited: a limited record does.
abbrev pub limited_within : List TypeForm → PartKind → Bool
limited_within types (part.Elementary kind) = false
limited_within types (part.Record t) = is_limited types t.0
limited_within types part.Parent = false

-- An aggregate is of a record type without controlled parts (the profile's), where its type is known.
abbrev pub aggregate_wanted : List TypeForm → Option TypeNo → Spot → Remark
aggregate_wanted types (Some t) spot = wrong_if (is_some (finalization_of types t.0)) spot WrongType
aggregate_wanted types None spot = fine

-- A record to which a path leads is copied to one of this type: a limited one is not (7.5).
abbrev pub copy_wanted : List TypeForm → TypeNo → Meant → Spot → Remark
copy_wanted types t (record_value path) spot = wrong_if (is_limited types t.0) spot WrongType
copy_wanted types t other spot = fine
