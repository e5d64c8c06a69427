use Rattle.ada_deeds.proofs.Conversely.{raises_are_known, frees_are_known}
use Rattle.ada_deeds.proofs.laws.effects_are_exact.Goals as goal

pub returns : goal.returns
returns c = record { raises = raises_are_known; frees = frees_are_known }
