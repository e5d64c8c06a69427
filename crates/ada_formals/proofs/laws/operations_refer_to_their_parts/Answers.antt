-- By the invariant.
use Rattle.ada_formals.proofs.Runs.{operations_refer_to_their_parts}
use Rattle.ada_formals.proofs.laws.operations_refer_to_their_parts.Goals as goal

pub returns : goal.returns
returns c = operations_refer_to_their_parts
