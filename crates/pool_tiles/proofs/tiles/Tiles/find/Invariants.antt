use Rattle.std.proofs.Common.{◌-◌, length}
use Rattle.pool_tiles.proofs.Searching.{Sought}
use Rattle.pool_tiles.proofs.tiles.Tiles.find.Given as goal

abbrev pub invariant-loop-place : goal.invariant-loop-place
invariant-loop-place l = Sought l.wanted l.self.tiles (length l.self-inside.words) l.place

abbrev pub decreases-loop-place : goal.decreases-loop-place
decreases-loop-place l = l.none - l.place
