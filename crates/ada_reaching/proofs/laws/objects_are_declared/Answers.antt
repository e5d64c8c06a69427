use Rattle.ada_reaching.proofs.ExampleDeclares as example
use Rattle.ada_reaching.proofs.laws.objects_are_declared.Goals as goal

pub returns : goal.returns
returns c = example.declaration_is_met
