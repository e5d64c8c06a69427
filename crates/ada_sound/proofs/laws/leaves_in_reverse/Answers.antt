-- In any run of any program.
use Rattle.ada_sound.proofs.Headline as headline
use Rattle.ada_sound.proofs.laws.leaves_in_reverse.Goals as goal

pub returns : goal.returns
returns c = headline.in_reverse
