use Rattle.ada_reaching.proofs.ExampleDeclaresCopy as example
use Rattle.ada_reaching.proofs.laws.copies_are_declared.Goals as goal

pub returns : goal.returns
returns c = example.copied_declaration_is_met
