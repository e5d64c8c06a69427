-- What an operation that touches storage is called for where a master is left (7.6.1): its objects, and those of its collections that are not calm.

use Rattle.std.proofs.Common.{ℕ, Bool, true, false, not}
use Rattle.ada_program.specs.ProgramForm.{ProgramForm}
use Rattle.ada_meaning.specs.State.{Owned, declared, collection, record_object, storage_pool}
use Rattle.ada_quiet.specs.Calm.{are_calm_in}

-- For the objects of an item such an operation may be called: it is a declared object, or the collection of an access type whose objects are not calm.
abbrev pub goes_first : (calm : ℕ → Bool) → Owned → Bool
goes_first calm (declared x) = true
goes_first calm (record_object t) = true
goes_first calm (collection access pool) = not (calm access)
goes_first calm (storage_pool declaration number) = false

-- In the runs of a program.
abbrev pub ahead_in : ProgramForm → Owned → Bool
ahead_in p owned = goes_first (are_calm_in p) owned
