-- Two blocks, one in the other.
use Rattle.ada_following.proofs.Example as example
use Rattle.ada_following.proofs.laws.blocks_are_followed.Goals as goal

pub returns : goal.returns
returns c = example.blocks_are_followed
