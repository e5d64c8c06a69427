-- By an example.
use Rattle.ada_typed.proofs.Example.{program, well_formed, finishes}
use Rattle.ada_typed.proofs.laws.a_well_formed_program_finishes.Goals as goal

pub returns : goal.returns
returns c = (program, well_formed, finishes)
