use Rattle.ada_circles.proofs.Leading.{goes_on}
use Rattle.ada_circles.proofs.laws.leading_goes_on.Goals as goal

pub returns : goal.returns
returns c = goes_on
