use Rattle.ada_rounds.proofs.Example.{fit, initialize_may_not, adjust_may_not, finalize_may}
use Rattle.ada_rounds.proofs.laws.neither_all_nor_none.Goals as goal

pub returns : goal.returns
returns c = record { fit = fit; initialize = initialize_may_not; adjust = adjust_may_not; finalize = finalize_may }
