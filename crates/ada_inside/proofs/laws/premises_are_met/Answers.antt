-- By a run.
use Rattle.ada_inside.proofs.Example.{premises_are_met}
use Rattle.ada_inside.proofs.laws.premises_are_met.Goals as goal

pub returns : goal.returns
returns c = premises_are_met
