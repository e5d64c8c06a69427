-- All of the above.
use Rattle.ada_sound.proofs.Headline as headline
use Rattle.ada_sound.proofs.laws.rules_imply_safety.Goals as goal

pub returns : goal.returns
returns c = headline.safe
