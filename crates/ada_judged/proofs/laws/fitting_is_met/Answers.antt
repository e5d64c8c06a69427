-- By an example.
use Rattle.ada_judged.proofs.FittingExample as example
use Rattle.ada_judged.proofs.laws.fitting_is_met.Goals as goal

pub returns : goal.returns
returns c = example.fitting_is_met
