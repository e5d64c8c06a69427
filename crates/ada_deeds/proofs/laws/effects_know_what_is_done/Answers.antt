use Rattle.ada_deeds.proofs.KnownExamples.{fits, passes_all}
use Rattle.ada_deeds.proofs.laws.effects_know_what_is_done.Goals as goal

pub returns : goal.returns
returns c = record { fits = fits; all = passes_all }
