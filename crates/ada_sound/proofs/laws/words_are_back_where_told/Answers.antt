-- By induction over the run: words change where an event says so.
use Rattle.ada_sound.proofs.Headline as headline
use Rattle.ada_sound.proofs.laws.words_are_back_where_told.Goals as goal

pub returns : goal.returns
returns c = headline.back_is_told
