use Rattle.ada_reaching.proofs.Deeds.{unused_untouched}
use Rattle.ada_reaching.proofs.laws.unused_objects_are_untouched.Goals as goal

pub returns : goal.returns
returns c = unused_untouched
