-- By an example.
use Rattle.ada_formals.proofs.LateExample.{needed}
use Rattle.ada_formals.proofs.laws.well_formedness_is_needed.Goals as goal

pub returns : goal.returns
returns c = needed
