-- So it is in any run of any program.
use Rattle.ada_sound.proofs.Headline as headline
use Rattle.ada_sound.proofs.laws.pools_differ.Goals as goal

pub returns : goal.returns
returns c = headline.pools_differ
