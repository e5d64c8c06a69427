use Rattle.ada_parts.proofs.Reverse.{can_be_reversed}
use Rattle.ada_parts.proofs.laws.orders_can_be_reversed.Goals as goal

pub returns : goal.returns
returns c = λ shapes of first steps calls table lt run. can_be_reversed shapes of first steps calls run
