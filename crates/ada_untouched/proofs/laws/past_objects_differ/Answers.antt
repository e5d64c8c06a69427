-- By an example.
use Rattle.ada_untouched.proofs.Example as example
use Rattle.ada_untouched.proofs.laws.past_objects_differ.Goals as goal

pub returns : goal.returns
returns c = example.past_objects_differ
