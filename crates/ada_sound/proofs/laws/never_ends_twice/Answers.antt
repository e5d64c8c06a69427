-- It is one of what is never next.
use Rattle.ada_meaning.specs.declared.event.Why.TheVariants.{EndsTwice}
use Rattle.ada_sound.proofs.Headline as headline
use Rattle.ada_sound.proofs.laws.never_ends_twice.Goals as goal

pub returns : goal.returns
returns c = λ program obeys. headline.never program obeys EndsTwice
