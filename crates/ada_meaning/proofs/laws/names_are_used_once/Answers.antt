-- By what each step does to the heap.
use Rattle.ada_meaning.proofs.Lives as lives
use Rattle.ada_meaning.proofs.laws.names_are_used_once.Goals as goal

pub returns : goal.returns
returns c = lives.names_are_used_once
