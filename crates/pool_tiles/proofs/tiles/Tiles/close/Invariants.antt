use Rattle.std.proofs.Common.{◌+◌, ◌-◌}
use Rattle.pool_tiles.proofs.Closing.{Closing, Counted}
use Rattle.pool_tiles.proofs.tiles.Tiles.close.Given as goal

abbrev pub invariant-loop-place : goal.invariant-loop-place
invariant-loop-place l = Closing l.owner l.initial.self l.self l.place × Counted l.none l.initial.self

abbrev pub decreases-loop-place : goal.decreases-loop-place
decreases-loop-place l = l.none + 1 - l.place
