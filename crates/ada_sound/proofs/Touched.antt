-- For which objects an operation may be called that touches storage (7.6): where operations may be frugal, and something creates an object with controlled parts, for
-- allocated ones that are not calm, and for declared ones.

use Rattle.std.proofs.Common.{ℕ, Bool, not, ◌&&◌}
use Rattle.ada_program.specs.ProgramForm.{ProgramForm}
use Rattle.ada_quiet.specs.Calm.{are_calm_in}
use Rattle.ada_quiet.specs.Idle.{makes_parts}
use Rattle.ada_quiet.specs.InUse.{may_be_frugal}

-- So it may be for one that is known by this type.
abbrev pub touches_in : ProgramForm → (access : ℕ) → Bool
touches_in p access = (may_be_frugal p && makes_parts p) && not (are_calm_in p access)
