use Rattle.ada_storage.proofs.Runs as runs
use Rattle.ada_storage.proofs.Ends as ends
use Rattle.ada_storage.proofs.laws.words_go_back_last.Goals as goal

pub returns : goal.returns
returns c = record { last = λ last events run. runs.before_back run runs.first_inv; all = ends.all_back }
