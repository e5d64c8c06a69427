-- By an example.
use Rattle.ada_created.proofs.Example as example
use Rattle.ada_created.proofs.laws.premises_are_met.Goals as goal

pub returns : goal.returns
returns c = (example.program, example.well_formed, example.obeys, example.uses_older)
