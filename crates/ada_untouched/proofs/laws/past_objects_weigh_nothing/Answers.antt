-- What is past is in no collection.
use Rattle.ada_untouched.proofs.Past.{past_weighs_nothing}
use Rattle.ada_untouched.proofs.laws.past_objects_weigh_nothing.Goals as goal

pub returns : goal.returns
returns c = past_weighs_nothing
