-- What is taken off the end is the newest.
use Rattle.std.proofs.Common.{◌≡◌, ◌-◌, length, arith, Result, Ok, Err, OnOk}
use Rattle.ada_interpreter.proofs.StackLemmas.{taken_in_order, left_in_order}
use Rattle.ada_interpreter.proofs.stack.Stack.take.Goals as goal

then_on_ok : {X E P Q : Type 0} (r : Result X E) → OnOk r P → (P → Q) → OnOk r Q
then_on_ok (Ok x) p f = f p
then_on_ok (Err e) p f = tt

pub returns-clause-taken : goal.returns-clause-taken
returns-clause-taken g c =
    let size : c.saturating_sub-kept.result ≡ length c.self.inside.items.items - c.args.count = grind arith in
    simp (taken_in_order c.self.inside.items.items c.args.self.now c.saturating_sub-kept.result c.args.count c.self.view_is size) at c.split_off.ensures.tail

pub returns-clause-left : goal.returns-clause-left
returns-clause-left g c =
    let size : c.saturating_sub-kept.result ≡ length c.self.inside.items.items - c.args.count = grind arith in
    let left = left_in_order c.self.inside.items.items c.args.self.now c.saturating_sub-kept.result c.args.count c.self.view_is size in
    then_on_ok c.split_off.result c.split_off.ensures.items (λ e. rw e left)
