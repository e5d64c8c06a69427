-- The home of an object is a collection that has its pool, and that is among the older items.
use Rattle.ada_sound.proofs.Headline as headline
use Rattle.ada_sound.proofs.laws.pools_outlast_their_objects.Goals as goal

pub returns : goal.returns
returns c = headline.pooled
