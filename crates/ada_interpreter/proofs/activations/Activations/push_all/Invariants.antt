-- Once the values that are left are kept, all are.
use Rattle.std.proofs.Common.{◌≡◌, drop}
use Rattle.ada_meaning.specs.Step.{operands_of, with_operands, in_front}
use Rattle.ada_interpreter.proofs.activations.Activations.push_all.Given as goal

abbrev pub invariant-loop-value : goal.invariant-loop-value
invariant-loop-value l =
    with_operands (in_front (drop l.value-index l.values) (operands_of l.self)) l.self ≡ with_operands (in_front l.values (operands_of l.fn.self)) l.fn.self
