-- Form by form.
use Rattle.ada_judged.proofs.FittingBodies.{tracked_fit_as_variables}
use Rattle.ada_judged.proofs.laws.tracked_components_fit_as_variables.Goals as goal

pub returns : goal.returns
returns c = tracked_fit_as_variables
