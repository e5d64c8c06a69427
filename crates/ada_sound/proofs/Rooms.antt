-- What a master may own stays so where it owns one item more.

use Rattle.std.proofs.Common.{ℕ, List, [], ◌∷◌}
use Rattle.ada_meaning.specs.State.{declared, Master}
use Rattle.ada_meaning.specs.Step.{owning}
use Rattle.ada_sound.proofs.Invariant.{Rooms, Roomed, HasRoom}

-- A variable more, which any master of the running activation may own.
pub roomed_declares : (below : List Master) (item : ℕ) (x : ℕ) (ms : List Master) (rooms : Rooms) → HasRoom rooms → Roomed below ms rooms → Roomed below (owning (record { number = item; owned = declared x }) ms) rooms
roomed_declares below item x ms [] has r = absurd has
roomed_declares below item x [] (gone ∷ rooms) has r = r
roomed_declares below item x (m ∷ ms) (gone ∷ rooms) has r = ((tt, r.0), r.1)
