-- By an example.
use Rattle.ada_scopes.proofs.OperationExample as example
use Rattle.ada_anywhere.proofs.Example.{collected}
use Rattle.ada_anywhere.proofs.laws.premises_are_met.Goals as goal

pub returns : goal.returns
returns c = (example.program, example.well_formed, example.nests, example.operations_nest_anywhere, collected)
