use Rattle.ada_operations.proofs.Nested.{parts_of_parts}
use Rattle.ada_operations.proofs.laws.parts_of_parts_count.Goals as goal

pub returns : goal.returns
returns c = parts_of_parts
