use Rattle.ada_storage.proofs.Runs as runs
use Rattle.ada_storage.proofs.Ends as ends
use Rattle.ada_storage.proofs.laws.masters_are_left_in_order.Goals as goal

pub returns : goal.returns
returns c = record { inner_first = ends.masters_fall; in_reverse = λ last events run. runs.in_reverse run runs.first_inv }
