-- It is so in storage, where what is back has no value.
use Rattle.ada_following.proofs.Runs as runs
use Rattle.ada_following.proofs.laws.values_end.Goals as goal

pub returns-clause-back : goal.returns-clause-back
returns-clause-back c = runs.finalized_by_back

pub returns-clause-all : goal.returns-clause-all
returns-clause-all c = λ program input events last halt run. runs.all_finalized program input events last run halt
