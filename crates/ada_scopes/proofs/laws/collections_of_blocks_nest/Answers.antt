-- By an example.
use Rattle.ada_scopes.proofs.Example as example
use Rattle.ada_scopes.proofs.laws.collections_of_blocks_nest.Goals as goal

pub returns : goal.returns
returns c = (example.nested, example.nested_well_formed, example.nested_nests, example.nested_operations, example.holds_both)
