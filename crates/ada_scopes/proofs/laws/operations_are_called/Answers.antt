-- By an example.
use Rattle.ada_scopes.proofs.OperationExample as example
use Rattle.ada_scopes.proofs.laws.operations_are_called.Goals as goal

pub returns : goal.returns
returns c = (example.program, example.well_formed, example.nests, example.operations_nest, example.outlasts)
