-- What is kept of the collection is the only thing that changes.
use Rattle.std.proofs.Common.{Result, Ok, Err, OnErr, refl, arith}
use Rattle.ada_interpreter.specs.Objects.{Kept, kept_of, nothing_kept, entered}
use Rattle.ada_interpreter.proofs.ChangeLemmas.{set_form, same_form}
use Rattle.ada_interpreter.proofs.shelves.enter.Goals as goal

on_err_from : {X E P : Type 0} (r : Result X E) → P → OnErr r P
on_err_from (Ok x) p = tt
on_err_from (Err e) p = p

pub returns-in_err-reserve-clause-err : goal.returns-in_err-reserve-clause-err
returns-in_err-reserve-clause-err c = on_err_from c.from_residual.result (same_form kept_of c.args.shelves.now.items c.args.item c.index_mut-shelf.result.now _ (omega arith) c.index_mut-shelf.ensures.value (rw c.reserve.ensures.items refl))

pub returns-clause-ok : goal.returns-clause-ok
returns-clause-ok c = set_form kept_of (λ (kept : Kept). entered kept c.args.o) c.args.shelves.now.items c.args.item c.index_mut-shelf.result.now _ nothing_kept (omega arith) c.index_mut-shelf.ensures.value (grind arith)
