-- By what says that inner values exist.
use Rattle.ada_inside.proofs.Runs.{values_exist}
use Rattle.ada_inside.proofs.laws.nested_values_exist.Goals as goal

pub returns : goal.returns
returns c = values_exist
