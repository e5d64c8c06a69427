-- What is used is created before, and so it is older.
use Rattle.ada_created.proofs.Created.{none_first}
use Rattle.ada_created.proofs.laws.nothing_used_goes_first.Goals as goal

pub returns : goal.returns
returns c = none_first
