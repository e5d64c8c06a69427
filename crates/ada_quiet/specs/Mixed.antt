-- Record types of which a copy has no part whose Adjust tracks beside a part whose Adjust touches storage otherwise (7.6).

use Rattle.std.specs.Prelude.{Bool, true, ◌||◌, List, Option, Some, None}
use Rattle.ada_program.specs.declared.program.Finalization.{Finalization}
use Rattle.ada_program.specs.ProgramForm.{TypeForm, ProgramForm}
use Rattle.ada_program.specs.WellFormed.{finalization_in}
use Rattle.ada_quiet.specs.Apart.{leaves_access}
use Rattle.ada_quiet.specs.Calm.{is_known_calm, calm_by}
use Rattle.ada_quiet.specs.Quiet.{has_access, is_quiet_operation}

-- Of those of some types with controlled parts, whether no Adjust tracks, neither of one itself nor of a part of it, at any depth.
abbrev pub untracked_types : List TypeForm → List Bool
untracked_types types = calm_by (λ t. leaves_access t (finalization_in (Some t))) types

-- What overrides Adjust of a type tracks, as the type declares a component of an access type directly (3.10, 7.6), or it is quiet, or there is none.
abbrev pub tracks_or_is_quiet : ProgramForm → TypeForm → Option Finalization → Bool
tracks_or_is_quiet p t None = true
tracks_or_is_quiet p t (Some f) = has_access (Some t) || is_quiet_operation p f.operations.adjust

-- Of those of a program, whether each Adjust is so, of one itself and of the parts of it, at any depth.
abbrev pub tracked_or_quiet_types : ProgramForm → List Bool
tracked_or_quiet_types p = calm_by (λ t. tracks_or_is_quiet p t (finalization_in (Some t))) p.types

-- A record type is one or the other: nothing in a copy is tracked where another part is adjusted that touches storage.
abbrev pub is_unmixed : (untracked tracked_or_quiet : List Bool) → Option Finalization → Bool
is_unmixed untracked tracked_or_quiet f = is_known_calm untracked f || is_known_calm tracked_or_quiet f
