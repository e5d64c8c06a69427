-- Step by step.
use Rattle.ada_untouched.proofs.Past.{past_does_not_matter}
use Rattle.ada_untouched.proofs.laws.past_objects_do_not_matter.Goals as goal

pub returns : goal.returns
returns c = past_does_not_matter
