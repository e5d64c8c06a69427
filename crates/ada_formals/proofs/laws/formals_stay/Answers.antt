-- By the invariant.
use Rattle.ada_formals.proofs.Runs.{formals_stay}
use Rattle.ada_formals.proofs.laws.formals_stay.Goals as goal

pub returns : goal.returns
returns c = formals_stay
