-- What goes back is out before, and in after.
use Rattle.ada_sound.proofs.Headline as headline
use Rattle.ada_sound.proofs.laws.words_go_back_once.Goals as goal

pub returns : goal.returns
returns c = headline.back_once
