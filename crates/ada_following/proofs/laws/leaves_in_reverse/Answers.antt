-- It is so in storage, whose run shows the same events.
use Rattle.ada_following.proofs.Runs as runs
use Rattle.ada_following.proofs.laws.leaves_in_reverse.Goals as goal

pub returns : goal.returns
returns c = runs.in_reverse
