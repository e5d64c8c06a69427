-- By an example.
use Rattle.ada_scopes.proofs.Example as example
use Rattle.ada_scopes.proofs.laws.nesting_is_needed.Goals as goal

pub returns : goal.returns
returns c = (example.loose, example.loose_well_formed, example.loose_operations, example.not_outlived)
