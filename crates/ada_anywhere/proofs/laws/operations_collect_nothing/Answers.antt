-- By the invariant.
use Rattle.ada_anywhere.proofs.Runs.{collect_nothing}
use Rattle.ada_anywhere.proofs.laws.operations_collect_nothing.Goals as goal

pub returns : goal.returns
returns c = collect_nothing
