-- By an example.
use Rattle.ada_scopes.proofs.OpenExample as example
use Rattle.ada_scopes.proofs.laws.operations_may_find_open.Goals as goal

pub returns : goal.returns
returns c = (example.program, example.well_formed, example.nests, example.operations_nest, example.not_anywhere)
