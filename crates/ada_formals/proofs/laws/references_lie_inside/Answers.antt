-- By the types of a well-formed program.
use Rattle.ada_formals.proofs.Inside.{references_lie_inside}
use Rattle.ada_formals.proofs.laws.references_lie_inside.Goals as goal

pub returns : goal.returns
returns c = references_lie_inside
