-- Each state of a run is typed.
use Rattle.ada_typed.proofs.Runs.{never_stuck}
use Rattle.ada_typed.proofs.laws.well_formed_programs_are_never_stuck.Goals as goal

pub returns : goal.returns
returns c = never_stuck
