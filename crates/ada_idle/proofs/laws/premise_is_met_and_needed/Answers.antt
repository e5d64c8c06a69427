use Rattle.ada_idle.proofs.Example.{premise_met_and_needed}
use Rattle.ada_idle.proofs.laws.premise_is_met_and_needed.Goals as goal

pub returns : goal.returns
returns c = premise_met_and_needed
