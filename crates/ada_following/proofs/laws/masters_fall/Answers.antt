-- It is so in storage, where the same masters are entered.
use Rattle.ada_following.proofs.Runs as runs
use Rattle.ada_following.proofs.laws.masters_fall.Goals as goal

pub returns : goal.returns
returns c = runs.masters_fall
