-- By its three steps.
use Rattle.ada_meaning.proofs.Records as records
use Rattle.ada_meaning.proofs.laws.copies_are_alike.Goals as goal

pub returns : goal.returns
returns c = records.copies_are_alike
