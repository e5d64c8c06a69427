use Rattle.ada_effects.specs.Found.{implicit_in}
use Rattle.ada_verdict.proofs.Firsts.{obeyed, refused_by_flow}
use Rattle.ada_verdict.proofs.accepted.obey.Goals as goal

-- what is known of implicit calls is what the program's do
pub returns-clause-obeys : goal.returns-clause-obeys
returns-clause-obeys c = obeyed c.args.program.now (implicit_in c.args.implicit.now) c.flow.result c.requires c.flow.ensures

pub returns-clause-refused : goal.returns-clause-refused
returns-clause-refused c = refused_by_flow c.args.program.now (implicit_in c.args.implicit.now) c.flow.result c.requires c.flow.ensures
