-- Nothing is finalized yet.
use Rattle.ada_sound.proofs.Headline as headline
use Rattle.ada_sound.proofs.laws.finalized_once.Goals as goal

pub returns : goal.returns
returns c = headline.finalized_once
