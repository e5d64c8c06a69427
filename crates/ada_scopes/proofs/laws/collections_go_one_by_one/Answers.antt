-- By an example.
use Rattle.ada_scopes.proofs.Example as example
use Rattle.ada_scopes.proofs.laws.collections_go_one_by_one.Goals as goal

pub returns : goal.returns
returns c = (example.passing, example.passing_well_formed, example.passing_nests, example.passing_operations, example.outlasts)
