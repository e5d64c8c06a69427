-- By the forms, each after its parts.
use Rattle.ada_judged.proofs.Obeying as law
use Rattle.ada_judged.proofs.laws.tracked_components_obey_as_variables.Goals as goal

pub returns : goal.returns
returns c = law.obey_as_variables
