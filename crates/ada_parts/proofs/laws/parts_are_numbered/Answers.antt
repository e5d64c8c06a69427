use Rattle.ada_parts.proofs.Numbers.{numbered}
use Rattle.ada_parts.proofs.laws.parts_are_numbered.Goals as goal

pub returns : goal.returns
returns c = numbered
