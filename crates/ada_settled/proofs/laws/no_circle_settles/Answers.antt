use Rattle.ada_settled.proofs.Settling.{no_circle_settles}
use Rattle.ada_settled.proofs.laws.no_circle_settles.Goals as goal

pub returns : goal.returns
returns c = no_circle_settles
