use Rattle.ada_circles.proofs.Example.{fit, its_own, crosses, may_declare, passes}
use Rattle.ada_circles.proofs.laws.neither_all_nor_none.Goals as goal

pub returns : goal.returns
returns c = record { fit = fit; itself = its_own; crossing = crosses; block = may_declare; passing = passes }
