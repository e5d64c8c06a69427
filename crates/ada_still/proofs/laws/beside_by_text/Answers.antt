-- Step by step.
use Rattle.ada_still.proofs.Text.{beside_law}
use Rattle.ada_still.proofs.laws.beside_by_text.Goals as goal

pub returns : goal.returns
returns c = beside_law
