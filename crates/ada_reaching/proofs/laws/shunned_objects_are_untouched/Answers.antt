use Rattle.ada_reaching.proofs.Law.{shunned_untouched}
use Rattle.ada_reaching.proofs.laws.shunned_objects_are_untouched.Goals as goal

pub returns : goal.returns
returns c = shunned_untouched
