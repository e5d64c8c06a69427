-- By an example.
use Rattle.ada_typed.proofs.ExampleOperations.{calls_finalize}
use Rattle.ada_typed.proofs.laws.a_well_formed_program_calls_finalize.Goals as goal

pub returns : goal.returns
returns c = calls_finalize
