use Rattle.ada_front.proofs.Parts.{unit_cut}
use Rattle.ada_front.proofs.cut.cut.Goals as goal

pub returns : goal.returns
returns c = unit_cut c.args.fault c.args.unit.now c.replace-body.result _ _ c.cut_part.ensures c.replace-body.ensures.value c.sequence_left.ensures
