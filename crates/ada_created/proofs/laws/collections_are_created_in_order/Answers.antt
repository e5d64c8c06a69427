-- In each state of a run the collections of each master have places in one part, one behind the other.
use Rattle.ada_created.proofs.Created.{in_order}
use Rattle.ada_created.proofs.laws.collections_are_created_in_order.Goals as goal

pub returns : goal.returns
returns c = in_order
