-- By each step.
use Rattle.ada_inside.proofs.Runs.{steps_nest}
use Rattle.ada_inside.proofs.laws.steps_nest_inside.Goals as goal

pub returns : goal.returns
returns c = steps_nest
