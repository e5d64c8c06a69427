use Rattle.ada_deeds.proofs.Known.{raises_are_done, frees_are_done}
use Rattle.ada_deeds.proofs.laws.effects_are_done.Goals as goal

pub returns : goal.returns
returns c = record { raises = raises_are_done; frees = frees_are_done }
