-- Bodies that track no components of their formal parameters, as all do but an Adjust of a type that declares components of access types (7.6).

use Rattle.std.specs.Prelude.{◌≡◌, ℕ, true, List, Some}
use Rattle.std.specs.List.{list_any, slice_get}
use Rattle.ada_program.specs.declared.program.ComponentKind.{ComponentKind}
use Rattle.ada_program.specs.declared.program.Finalization.{Finalization}
use Rattle.ada_program.specs.ProgramForm.{PartForm, TypeForm, record_of}
use Rattle.ada_program.specs.WellFormed.{is_inherited}
use Rattle.ada_flow.specs.Flow.{Around, is_owning_part}
use Rattle.ada_flow.specs.Tracking.{no_tracks}

-- Where a statement stands, in a body that tracks nothing.
abbrev pub untracked : Around → Around
untracked around = record around { tracks = no_tracks }

-- No record type that declares components of access types has an Adjust of its own (7.6): a copy names what its original does.
abbrev pub AdjustsNoOwners : List TypeForm → Type 0
AdjustsNoOwners types =
    (t : ℕ) (name : List ℕ) (parts : List PartForm) (components : List ComponentKind) (f : Finalization)
    → slice_get types t ≡ Some (record_of name parts components (Some f)) → list_any (λ c. is_owning_part c.kind) parts ≡ true
    → is_inherited f.operations.adjust ≡ true
