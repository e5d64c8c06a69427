-- Step by step.
use Rattle.ada_still.proofs.Text.{still_law}
use Rattle.ada_still.proofs.laws.still_by_text.Goals as goal

pub returns : goal.returns
returns c = still_law
