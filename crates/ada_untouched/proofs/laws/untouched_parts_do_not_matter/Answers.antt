-- Step by step.
use Rattle.ada_untouched.proofs.Law.{steps_alike}
use Rattle.ada_untouched.proofs.laws.untouched_parts_do_not_matter.Goals as goal

pub returns : goal.returns
returns c = steps_alike
