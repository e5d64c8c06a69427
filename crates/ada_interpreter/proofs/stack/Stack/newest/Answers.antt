-- What stands at the end is the newest.
use Rattle.std.proofs.Common.{◌≡◌, ◌-◌, length, ◌∙◌, arith}
use Rattle.std.proofs.lemmas.Slice.{between_to_end}
use Rattle.ada_interpreter.proofs.StackLemmas.{taken_in_order}
use Rattle.ada_interpreter.proofs.stack.Stack.newest.Goals as goal

pub returns : goal.returns
returns g c =
    let xs = c.self.inside.items.items in
    let kept = c.saturating_sub-kept.result in
    let size : kept ≡ length xs - c.args.count = grind arith in
    rw c.deref.ensures.value (between_to_end xs kept (length xs) (omega arith) ∙ taken_in_order xs c.args.self.now kept c.args.count c.self.view_is size)
