use Rattle.std.proofs.lemmas.Result.{err_from_is_err_and}
use Rattle.ada_serve.proofs.Writing.{idle}
use Rattle.ada_serve.proofs.serve.finish.Goals as goal

pub returns-in_err-put_unhandled-in-Unhandled-clause-writer : goal.returns-in_err-put_unhandled-in-Unhandled-clause-writer
returns-in_err-put_unhandled-in-Unhandled-clause-writer g c =
    let p = err_from_is_err_and c.from_residual-in_err-put_unhandled-in-Unhandled.result c.from_residual-in_err-put_unhandled-in-Unhandled.ensures.1 in
    rw (p.1, p.2) (idle g.W.ByteWriter.writes c.args.out.now)

pub returns-in-Memory-clause-writer : goal.returns-in-Memory-clause-writer
returns-in-Memory-clause-writer g c = idle g.W.ByteWriter.writes c.args.out.now
