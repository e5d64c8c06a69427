-- By a run that halts.
use Rattle.ada_inside.proofs.Needed.{premise_is_needed}
use Rattle.ada_inside.proofs.laws.premise_is_needed.Goals as goal

pub returns : goal.returns
returns c = premise_is_needed
