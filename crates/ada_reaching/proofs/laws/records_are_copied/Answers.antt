use Rattle.ada_reaching.proofs.ExampleCopies as example
use Rattle.ada_reaching.proofs.laws.records_are_copied.Goals as goal

pub returns : goal.returns
returns c = example.copy_is_met
