-- The invariant has it.
use Rattle.ada_sound.proofs.Headline as headline
use Rattle.ada_sound.proofs.laws.objects_are_housed.Goals as goal

pub returns : goal.returns
returns c = headline.housed
