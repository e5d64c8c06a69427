-- By its one step.
use Rattle.ada_meaning.proofs.Calls as calls
use Rattle.ada_meaning.proofs.laws.calls_evaluate.Goals as goal

pub returns : goal.returns
returns c = calls.calls_evaluate
