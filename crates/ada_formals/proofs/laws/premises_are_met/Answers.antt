-- By an example.
use Rattle.ada_formals.proofs.Example.{premises_are_met}
use Rattle.ada_formals.proofs.laws.premises_are_met.Goals as goal

pub returns : goal.returns
returns c = premises_are_met
