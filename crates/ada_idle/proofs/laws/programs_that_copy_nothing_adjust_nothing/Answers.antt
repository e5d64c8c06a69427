use Rattle.ada_idle.proofs.UnadjustedRuns.{copying_nothing_adjusts_nothing}
use Rattle.ada_idle.proofs.laws.programs_that_copy_nothing_adjust_nothing.Goals as goal

pub returns : goal.returns
returns c = copying_nothing_adjusts_nothing
