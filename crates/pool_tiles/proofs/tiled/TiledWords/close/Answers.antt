use Rattle.std.proofs.Common.{◌≢◌, sym, map, subst}
use Rattle.pool_tiles.specs.Headers.{Apart}
use Rattle.pool_tiles.specs.Tiling.{let_go, block_owner}
use Rattle.pool_tiles.specs.Tiled.{Tiled}
use Rattle.pool_tiles.specs.Kept.{KeepsBlocks}
use Rattle.pool_tiles.proofs.Owners.{keeps-closed}
use Rattle.pool_tiles.proofs.Merging.{merged-apart}
use Rattle.pool_tiles.proofs.tiled.TiledWords.close.Goals as goal

pub invariant_of-self : goal.invariant_of-self
invariant_of-self c = subst Apart (sym c.close.ensures.tiles) (merged-apart (map (let_go c.args.owner) c.self.inside.tiles.tiles))

pub returns-clause-stay : goal.returns-clause-stay
returns-clause-stay c =
    subst (λ (t : Tiled). KeepsBlocks (λ other. block_owner t.tiles other ≢ c.args.owner) t.tiles c.close.new.self.tiles) c.self.view_is
    (subst (KeepsBlocks (λ other. block_owner c.self.inside.tiles.tiles other ≢ c.args.owner) c.self.inside.tiles.tiles) (sym c.close.ensures.tiles) (keeps-closed c.args.owner c.self.inside.tiles.tiles))
