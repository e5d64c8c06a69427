-- What is cut off the end is the newest.
use Rattle.std.proofs.Common.{◌≡◌, ◌-◌, length, arith}
use Rattle.ada_interpreter.proofs.StackLemmas.{left_in_order}
use Rattle.ada_interpreter.proofs.stack.Stack.shorten_by.Goals as goal

pub returns : goal.returns
returns g c =
    let size : c.saturating_sub-kept.result ≡ length c.self.inside.items.items - c.args.count = grind arith in
    rw c.truncate.ensures.items (left_in_order c.self.inside.items.items c.args.self.now c.saturating_sub-kept.result c.args.count c.self.view_is size)
