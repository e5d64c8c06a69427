use Rattle.ada_storage.proofs.Runs as runs
use Rattle.ada_storage.proofs.laws.never_erroneous.Goals as goal

pub returns : goal.returns
returns c = λ last events run choice is. runs.never_erroneous choice run runs.first_inv is
