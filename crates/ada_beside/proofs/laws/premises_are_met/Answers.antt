-- By an example.
use Rattle.ada_beside.proofs.Example as example
use Rattle.ada_beside.proofs.laws.premises_are_met.Goals as goal

pub returns : goal.returns
returns c = example.premises_are_met
