use Rattle.std.proofs.lemmas.Result.{err_from_is_err_and}
use Rattle.ada_serve.proofs.Writing.{idle}
use Rattle.ada_serve.proofs.serve.write_event.Goals as goal

pub returns-in_err-put_event-clause-writer : goal.returns-in_err-put_event-clause-writer
returns-in_err-put_event-clause-writer g c =
    let p = err_from_is_err_and c.from_residual.result c.from_residual.ensures.1 in
    rw (p.1, p.2) (idle g.W.ByteWriter.writes c.args.out.now)
