use Rattle.std.proofs.Common.{◌≡◌, ◌-◌, w32, ap, ◌∙◌, arith}
use Rattle.std.proofs.lemmas.Int.{to_z-of_z}
use Rattle.std.specs.Prelude.{ℤ}
use Rattle.ada_interpreter.specs.CommonSteps.{counted_to}
use Rattle.ada_interpreter.proofs.CommonStepLemmas.{newest_counted}
use Rattle.ada_interpreter.proofs.stack.Stack+Frame.set_count.Goals as goal

pub returns-then-n-gt0 : goal.returns-then-n-gt0
returns-then-n-gt0 c =
    let counted : c.set_count.new.self ≡ counted_to c.args.count c.index_mut.result.now = c.set_count.ensures ∙ ap (λ (z : ℤ). counted_to z c.index_mut.result.now) (to_z-of_z w32 c.args.count c.ranges.count) in
    newest_counted c.self.inside.items.items c.args.self.now (c.len-n.result - 1) c.args.count c.index_mut.result.now c.set_count.new.self c.self.view_is (omega arith) c.index_mut.ensures.value counted
