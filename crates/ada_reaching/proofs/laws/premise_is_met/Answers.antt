use Rattle.ada_reaching.proofs.Example as example
use Rattle.ada_reaching.proofs.laws.premise_is_met.Goals as goal

pub returns : goal.returns
returns c = example.premise_is_met
