use Rattle.ada_reaching.proofs.ExampleInitializes as example
use Rattle.ada_reaching.proofs.laws.objects_are_initialized.Goals as goal

pub returns : goal.returns
returns c = example.initialization_is_met
