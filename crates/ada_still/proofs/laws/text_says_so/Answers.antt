-- Step by step.
use Rattle.ada_still.proofs.Example.{text_says_so}
use Rattle.ada_still.proofs.laws.text_says_so.Goals as goal

pub returns : goal.returns
returns c = text_says_so
