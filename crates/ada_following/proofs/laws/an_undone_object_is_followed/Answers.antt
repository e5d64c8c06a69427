-- Nineteen steps lead to its end.
use Rattle.ada_following.proofs.Example as example
use Rattle.ada_following.proofs.laws.an_undone_object_is_followed.Goals as goal

pub returns : goal.returns
returns c = example.an_undone_object_is_followed
