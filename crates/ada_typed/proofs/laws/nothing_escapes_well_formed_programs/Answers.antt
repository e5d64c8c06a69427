-- Each state of a run is typed.
use Rattle.ada_typed.proofs.Runs.{nothing_escapes}
use Rattle.ada_typed.proofs.laws.nothing_escapes_well_formed_programs.Goals as goal

pub returns : goal.returns
returns c = nothing_escapes
