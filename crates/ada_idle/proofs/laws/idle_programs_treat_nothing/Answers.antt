use Rattle.ada_idle.proofs.Runs.{idle_treats_nothing}
use Rattle.ada_idle.proofs.laws.idle_programs_treat_nothing.Goals as goal

pub returns : goal.returns
returns c = idle_treats_nothing
