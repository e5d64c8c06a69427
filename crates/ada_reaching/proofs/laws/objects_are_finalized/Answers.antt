use Rattle.ada_reaching.proofs.ExampleFinalizes as example
use Rattle.ada_reaching.proofs.laws.objects_are_finalized.Goals as goal

pub returns : goal.returns
returns c = example.finalization_is_met
