-- By the operations that are left to be called.
use Rattle.ada_meaning.proofs.Pace as pace
use Rattle.ada_meaning.proofs.laws.operations_grow_fewer.Goals as goal

pub returns : goal.returns
returns c = record { fewer = pace.operations_grow_fewer; lighter = pace.steps_make_fully_lighter }
