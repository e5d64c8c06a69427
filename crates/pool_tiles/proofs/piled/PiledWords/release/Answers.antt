use Rattle.pool_tiles.proofs.Piling.{release_told}
use Rattle.pool_tiles.proofs.piled.PiledWords.release.Goals as goal

pub invariant_of-self : goal.invariant_of-self
invariant_of-self c = (release_told c.self.inside.words c.self.inside.cursor c.self.invariant c.args.place c.args.owner c.args.self.now c.self.view_is c.requires).piles

pub returns-clause-tiles : goal.returns-clause-tiles
returns-clause-tiles c = (release_told c.self.inside.words c.self.inside.cursor c.self.invariant c.args.place c.args.owner c.args.self.now c.self.view_is c.requires).tiles

pub returns-clause-blocks : goal.returns-clause-blocks
returns-clause-blocks c = (release_told c.self.inside.words c.self.inside.cursor c.self.invariant c.args.place c.args.owner c.args.self.now c.self.view_is c.requires).blocks

pub returns-clause-stay : goal.returns-clause-stay
returns-clause-stay c = (release_told c.self.inside.words c.self.inside.cursor c.self.invariant c.args.place c.args.owner c.args.self.now c.self.view_is c.requires).stay
