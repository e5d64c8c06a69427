-- It is one of what is never next.
use Rattle.ada_meaning.specs.declared.event.Why.TheVariants.{GivesElsewhere}
use Rattle.ada_sound.proofs.Headline as headline
use Rattle.ada_sound.proofs.laws.never_gives_elsewhere.Goals as goal

pub returns : goal.returns
returns c = λ program obeys. headline.never program obeys GivesElsewhere
