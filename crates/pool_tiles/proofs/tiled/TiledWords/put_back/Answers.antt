use Rattle.std.proofs.Common.{◌≢◌, sym, subst}
use Rattle.pool_tiles.specs.Headers.{Apart}
use Rattle.pool_tiles.specs.Tiling.{freed, IsTaken}
use Rattle.pool_tiles.specs.Tiled.{Tiled}
use Rattle.pool_tiles.specs.Kept.{KeepsBlocks}
use Rattle.pool_tiles.proofs.Objects.{block_found}
use Rattle.pool_tiles.proofs.Owners.{keeps-put_back}
use Rattle.pool_tiles.proofs.Merging.{merged-apart}
use Rattle.pool_tiles.proofs.tiled.TiledWords.put_back.Goals as goal

pub put_back-requires-clause-block : goal.put_back-requires-clause-block
put_back-requires-clause-block c = block_found c.self.inside.tiles.tiles c.args.place (subst (λ (t : Tiled). IsTaken t.tiles c.args.place) (sym c.self.view_is) c.requires)

pub invariant_of-self : goal.invariant_of-self
invariant_of-self c = subst Apart (sym c.put_back.ensures.tiles) (merged-apart (freed c.args.place c.self.inside.tiles.tiles))

pub returns-clause-stay : goal.returns-clause-stay
returns-clause-stay c =
    subst (λ (t : Tiled). KeepsBlocks (λ other. other ≢ c.args.place) t.tiles c.put_back.new.self.tiles) c.self.view_is
    (subst (KeepsBlocks (λ other. other ≢ c.args.place) c.self.inside.tiles.tiles) (sym c.put_back.ensures.tiles) (keeps-put_back c.args.place c.self.inside.tiles.tiles))
