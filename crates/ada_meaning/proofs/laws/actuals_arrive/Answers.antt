-- By its one step.
use Rattle.ada_meaning.proofs.Calls as calls
use Rattle.ada_meaning.proofs.laws.actuals_arrive.Goals as goal

pub returns : goal.returns
returns c = calls.actuals_arrive
