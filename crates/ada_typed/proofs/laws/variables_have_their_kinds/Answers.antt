-- Each state of a run is typed.
use Rattle.ada_typed.proofs.Runs as runs
use Rattle.ada_typed.proofs.laws.variables_have_their_kinds.Goals as goal

pub returns : goal.returns
returns c = runs.variables_have_their_kinds
