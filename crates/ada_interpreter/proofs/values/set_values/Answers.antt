-- What is left comes behind the end.
use Rattle.std.proofs.Common.{drop, ◌∙◌, sym, arith}
use Rattle.ada_interpreter.proofs.RecordLemmas.{set_from_past}
use Rattle.ada_interpreter.proofs.values.set_values.Goals as goal

pub returns-then-i-values : goal.returns-then-i-values
returns-then-i-values c =
    sym (set_from_past c.loop-value.values c.loop-value.i (drop c.loop-value.value-index c.args.others.now) (omega arith)) ∙ c.loop-value.invariant
