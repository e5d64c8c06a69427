-- By an example.
use Rattle.ada_typed.proofs.ExampleParts.{assigns}
use Rattle.ada_typed.proofs.laws.a_well_formed_program_assigns_parts.Goals as goal

pub returns : goal.returns
returns c = assigns
