-- No master is left, so no object has a home, and none is out.
use Rattle.ada_sound.proofs.Headline as headline
use Rattle.ada_sound.proofs.laws.ends_clean.Goals as goal

pub returns : goal.returns
returns c = headline.ends_clean
