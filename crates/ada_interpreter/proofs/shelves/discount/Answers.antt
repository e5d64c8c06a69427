-- What is kept of the collection is the only thing that changes.
use Rattle.std.proofs.Common.{arith}
use Rattle.ada_interpreter.specs.Objects.{kept_of, nothing_kept, discounted}
use Rattle.ada_interpreter.proofs.ChangeLemmas.{set_form}
use Rattle.ada_interpreter.proofs.shelves.discount.Goals as goal

pub returns-then-item-len : goal.returns-then-item-len
returns-then-item-len c = rw c.in-Some.is (set_form kept_of discounted c.args.shelves.now.items c.in-Some.item c.index_mut-shelf.result.now _ nothing_kept (omega arith) c.index_mut-shelf.ensures.value (grind arith))
