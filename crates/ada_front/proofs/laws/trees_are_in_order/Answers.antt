use Rattle.ada_front.proofs.InText.{trees_are_in_order}
use Rattle.ada_front.proofs.laws.trees_are_in_order.Goals as goal

pub returns : goal.returns
returns c = trees_are_in_order
