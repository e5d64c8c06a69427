-- What is known stays in order from declaration to declaration and from statement to statement.
use Rattle.ada_resolve.proofs.WellFormed as known
use Rattle.ada_resolve.proofs.laws.programs_free_their_own.Goals as goal

pub returns : goal.returns
returns c = known.frees_own
