use Rattle.ada_resolve.proofs.First.{notes_the_first}
use Rattle.ada_resolve.proofs.laws.the_first_fault_is_noted.Goals as goal

pub returns : goal.returns
returns c = notes_the_first
