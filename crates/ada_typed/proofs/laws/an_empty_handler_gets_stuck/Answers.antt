-- By an example.
use Rattle.ada_typed.proofs.Example.{unhandling, empty_handler, handles_by_nothing}
use Rattle.ada_typed.proofs.laws.an_empty_handler_gets_stuck.Goals as goal

pub returns : goal.returns
returns c = (unhandling, empty_handler, handles_by_nothing)
