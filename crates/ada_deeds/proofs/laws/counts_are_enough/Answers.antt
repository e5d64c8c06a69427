use Rattle.ada_deeds.proofs.Within.{counts_are_enough}
use Rattle.ada_deeds.proofs.laws.counts_are_enough.Goals as goal

pub returns : goal.returns
returns c = counts_are_enough
