-- What is followed is out.
use Rattle.ada_sound.proofs.Headline as headline
use Rattle.ada_sound.proofs.laws.nothing_is_followed_after_back.Goals as goal

pub returns : goal.returns
returns c = headline.followed_before_back
