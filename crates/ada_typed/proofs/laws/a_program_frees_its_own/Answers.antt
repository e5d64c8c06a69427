-- By an example.
use Rattle.ada_typed.proofs.ExampleFreeing.{frees_its_own}
use Rattle.ada_typed.proofs.laws.a_program_frees_its_own.Goals as goal

pub returns : goal.returns
returns c = frees_its_own
