-- By an example.
use Rattle.ada_scopes.proofs.Example as example
use Rattle.ada_scopes.proofs.laws.collections_of_calls_nest.Goals as goal

pub returns : goal.returns
returns c = (example.calling, example.calling_well_formed, example.calling_nests, example.calling_operations, example.calling_are, example.body_holds_both)
