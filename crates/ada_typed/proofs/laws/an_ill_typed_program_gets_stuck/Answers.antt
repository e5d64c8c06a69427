-- By an example.
use Rattle.ada_typed.proofs.Example.{ill_typed, gets_stuck}
use Rattle.ada_typed.proofs.laws.an_ill_typed_program_gets_stuck.Goals as goal

pub returns : goal.returns
returns c = (ill_typed, gets_stuck)
