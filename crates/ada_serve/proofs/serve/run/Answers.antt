use Rattle.std.proofs.lemmas.Result.{err_from_is_err_and}
use Rattle.ada_serve.proofs.Writing.{idle}
use Rattle.ada_serve.proofs.serve.run.Goals as goal

pub returns-in_err-machine-clause-writer : goal.returns-in_err-machine-clause-writer
returns-in_err-machine-clause-writer g c =
    let p = err_from_is_err_and c.from_residual-in_err-machine.result c.from_residual-in_err-machine.ensures.1 in
    rw (p.1, p.2) (idle g.W.ByteWriter.writes c.args.out.now)

pub returns-in_err-choices-clause-writer : goal.returns-in_err-choices-clause-writer
returns-in_err-choices-clause-writer g c =
    let p = err_from_is_err_and c.from_residual.result c.from_residual.ensures.1 in
    rw (p.1, p.2) (idle g.W.ByteWriter.writes c.args.out.now)
