-- Step by step.
use Rattle.ada_untouched.proofs.KeptByLaw.{hidden_stays}
use Rattle.ada_untouched.proofs.laws.hidden_parts_stay.Goals as goal

pub returns : goal.returns
returns c = hidden_stays
