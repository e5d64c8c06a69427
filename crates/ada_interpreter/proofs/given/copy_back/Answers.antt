-- Where nothing is left of the one or of the other, no more is given back.
use Rattle.std.proofs.Common.{◌∙◌}
use Rattle.std.proofs.lemmas.Slice.Zip.{either_empty_from_Zip}
use Rattle.ada_interpreter.proofs.ActivationLemmas.{no_more_gives}
use Rattle.ada_interpreter.proofs.given.copy_back.Goals as goal

pub returns : goal.returns
returns c =
    no_more_gives _ _ c.loop-actual.variables (either_empty_from_Zip _ c.next.new.self _ c.in-None.is c.next.ensures.steps) ∙ c.loop-actual.invariant
