-- Once the values that are left are set, all are.
use Rattle.std.proofs.Common.{◌≡◌, drop}
use Rattle.ada_interpreter.specs.Objects.{set_from}
use Rattle.ada_interpreter.proofs.values.set_values.Given as goal

abbrev pub invariant-loop-value : goal.invariant-loop-value
invariant-loop-value l = set_from l.values l.i (drop l.value-index l.others) ≡ set_from l.fn.values l.first l.others
