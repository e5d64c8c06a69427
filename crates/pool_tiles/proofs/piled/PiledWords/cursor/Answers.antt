use Rattle.pool_tiles.proofs.Piling.{total_is}
use Rattle.pool_tiles.proofs.piled.PiledWords.cursor.Goals as goal

pub returns : goal.returns
returns c = total_is c.self.inside.words c.self.inside.cursor c.args.self.now c.self.invariant c.self.view_is
