-- By its one step.
use Rattle.ada_meaning.proofs.Calls as calls
use Rattle.ada_meaning.proofs.laws.callers_resume.Goals as goal

pub returns : goal.returns
returns c = calls.callers_resume
