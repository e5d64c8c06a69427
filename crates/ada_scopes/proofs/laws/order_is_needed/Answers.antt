-- By two examples.
use Rattle.ada_scopes.proofs.LateExample as late
use Rattle.ada_scopes.proofs.laws.order_is_needed.Goals as goal

pub returns : goal.returns
returns c = (late.pool_late, late.collection_late)
