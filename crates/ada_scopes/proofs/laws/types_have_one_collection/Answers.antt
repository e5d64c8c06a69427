-- No access type is opened twice.
use Rattle.ada_scopes.proofs.Components.{one_collection}
use Rattle.ada_scopes.proofs.laws.types_have_one_collection.Goals as goal

pub returns : goal.returns
returns c = one_collection
