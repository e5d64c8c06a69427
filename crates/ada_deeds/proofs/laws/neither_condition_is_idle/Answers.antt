use Rattle.ada_deeds.proofs.KnownExamples.{copying_fits, finalize_unknown, adjust_unknown}
use Rattle.ada_deeds.proofs.laws.neither_condition_is_idle.Goals as goal

pub returns : goal.returns
returns c = record { fits = copying_fits; finalize = finalize_unknown; adjust = adjust_unknown }
