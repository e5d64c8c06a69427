-- The invariant has the home of what is under way.
use Rattle.ada_sound.proofs.Headline as headline
use Rattle.ada_sound.proofs.laws.words_go_back_home.Goals as goal

pub returns : goal.returns
returns c = headline.back_home
