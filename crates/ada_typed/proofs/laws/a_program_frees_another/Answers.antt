-- By an example.
use Rattle.ada_typed.proofs.ExampleFreeing.{frees_another}
use Rattle.ada_typed.proofs.laws.a_program_frees_another.Goals as goal

pub returns : goal.returns
returns c = frees_another
