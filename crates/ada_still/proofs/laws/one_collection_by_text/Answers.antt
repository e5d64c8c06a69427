-- Step by step.
use Rattle.ada_still.proofs.Text.{one_collection_law}
use Rattle.ada_still.proofs.laws.one_collection_by_text.Goals as goal

pub returns : goal.returns
returns c = one_collection_law
