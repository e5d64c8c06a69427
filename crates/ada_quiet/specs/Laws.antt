-- Laws of what is in use, and of calm types.

use Rattle.std.specs.Prelude.{◌≡◌, ◌↔◌, ℕ, Bool, true, List, Some}
use Rattle.std.specs.List.{slice_get}
use Rattle.ada_program.specs.declared.program.Finalization.{Finalization}
use Rattle.ada_program.specs.ProgramForm.{TypeForm, BodyForm, ProgramForm}
use Rattle.ada_program.specs.Walks.{Walks}
use Rattle.ada_program.specs.WellFormed.{IsWellFormed, finalization_of}
use Rattle.ada_quiet.specs.Calm.{is_known_calm, calm_by}
use Rattle.ada_quiet.specs.Quiet.{is_plain_body, is_quiet_body, operations_are_quiet}
use Rattle.ada_quiet.specs.Frugal.{Thrift, is_frugal_body}
use Rattle.ada_quiet.specs.Simple.{is_simple_body}
use Rattle.ada_quiet.specs.InUse.{operations_are_in_use}

-- A plain body is frugal, whatever is known of types and procedures: it allocates and frees nothing, and calls no procedure.
abbrev pub PlainIsFrugal : Type 0
PlainIsFrugal = (thrift : Thrift) (types : List TypeForm) (b : BodyForm) → is_plain_body types b ≡ true → is_frugal_body thrift b ≡ true

-- A quiet body is simple: it calls nothing, copies no record, and frees nothing.
abbrev pub QuietIsSimple : Type 0
QuietIsSimple =
    (types others : List TypeForm) (b : BodyForm) → is_quiet_body types b ≡ true → is_simple_body others b ≡ true

-- Where all operations are quiet, all are in use.
abbrev pub QuietIsInUse : Type 0
QuietIsInUse = (p : ProgramForm) → operations_are_quiet p ≡ true → operations_are_in_use p ≡ true

-- What is asked of a type's own operations holds of the type of each record that lies in an object of a record type, the whole object included (3.8, 7.6).
abbrev pub IsToldWithin : (own : TypeForm → Bool) → List TypeForm → (t : ℕ) → Type 0
IsToldWithin own types t = (u first part : ℕ) (form : TypeForm) → Walks types t first part u → slice_get types u ≡ Some form → own form ≡ true

-- In a well-formed program a record type with controlled parts is told to be calm exactly where the own operations are so of each record that lies in its
-- objects, whatever is asked about them.
abbrev pub CalmIsToldWithin : Type 0
CalmIsToldWithin = (p : ProgramForm) (own : TypeForm → Bool) → IsWellFormed p → (t : ℕ) (f : Finalization) → finalization_of p.types t ≡ Some f
    → (is_known_calm (calm_by own p.types) (Some f) ≡ true) ↔ IsToldWithin own p.types t
