-- By an example.
use Rattle.ada_outlived.proofs.Example as example
use Rattle.ada_outlived.proofs.laws.premises_are_met.Goals as goal

pub returns : goal.returns
returns c = (example.program, example.well_formed, example.nests, example.operations_nest, example.ends_object)
