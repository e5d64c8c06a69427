-- One more object is forgotten.
use Rattle.ada_untouched.proofs.Past.{forgetting_changes_past_alone}
use Rattle.ada_untouched.proofs.laws.forgetting_changes_past_objects_alone.Goals as goal

pub returns : goal.returns
returns c = forgetting_changes_past_alone
