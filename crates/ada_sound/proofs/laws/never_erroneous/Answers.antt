-- No state that keeps the invariant has it next.
use Rattle.ada_sound.proofs.Headline as headline
use Rattle.ada_sound.proofs.laws.never_erroneous.Goals as goal

pub returns : goal.returns
returns c = headline.never
