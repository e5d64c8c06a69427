use Rattle.std.proofs.Common.{◌+ℤ◌, ◌-ℤ◌, ◌*ℤ◌}
use Rattle.std.proofs.lemmas.Int.{to_z-of_z}
use Rattle.ada_values.specs.Outcome.{outcome_of}
use Rattle.ada_interpreter.proofs.NumberLemmas.{exact}
use Rattle.ada_interpreter.proofs.numbers.result_of.Goals as goal

pub returns-in-Add : goal.returns-in-Add
unfolding outcome_of
returns-in-Add c =
    rw c.in-Add.is (exact (c.args.left +ℤ c.args.right) c.checked_add.result (simp (to_z-of_z, c.ranges.left, c.ranges.right) at c.checked_add.ensures))

pub returns-in-Subtract : goal.returns-in-Subtract
unfolding outcome_of
returns-in-Subtract c =
    rw c.in-Subtract.is (exact (c.args.left -ℤ c.args.right) c.checked_sub.result (simp (to_z-of_z, c.ranges.left, c.ranges.right) at c.checked_sub.ensures))

pub returns-in-Multiply : goal.returns-in-Multiply
unfolding outcome_of
returns-in-Multiply c =
    rw c.in-Multiply.is (exact (c.args.left *ℤ c.args.right) c.checked_mul.result (simp (to_z-of_z, c.ranges.left, c.ranges.right) at c.checked_mul.ensures))
