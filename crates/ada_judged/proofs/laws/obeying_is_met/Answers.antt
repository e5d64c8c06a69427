-- By an example.
use Rattle.ada_judged.proofs.Obeying as law
use Rattle.ada_judged.proofs.laws.obeying_is_met.Goals as goal

pub returns : goal.returns
returns c = law.obeying_is_met
