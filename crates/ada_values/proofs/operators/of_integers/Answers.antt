-- An exact result in range or not.
use Rattle.std.proofs.Common.{refl, sym, subst, ◌+ℤ◌, ◌-ℤ◌, ◌*ℤ◌}
use Rattle.std.proofs.lemmas.Int.{to_z-of_z}
use Rattle.ada_values.specs.declared.operator.BinaryOperator.TheVariants as binary
use Rattle.ada_values.specs.declared.value.Value.TheVariants.{Integer}
use Rattle.ada_values.specs.Operators.{IsOutcome}
use Rattle.ada_values.proofs.Outcomes.{ranged}
use Rattle.ada_values.proofs.operators.of_integers.Goals as goal

pub returns-in-Add : goal.returns-in-Add
returns-in-Add c =
    let a = c.args.left in
    let b = c.args.right in
    let made = simp (to_z-of_z, c.ranges.left, c.ranges.right) at c.checked_add.ensures in
    subst (λ o. IsOutcome o (Integer a) (Integer b) c.in_range.result) (sym c.in-Add.is)
    (ranged binary.Add a b (a +ℤ b) c.checked_add.result c.in_range.result refl made c.in_range.ensures)

pub returns-in-Subtract : goal.returns-in-Subtract
returns-in-Subtract c =
    let a = c.args.left in
    let b = c.args.right in
    let made = simp (to_z-of_z, c.ranges.left, c.ranges.right) at c.checked_sub.ensures in
    subst (λ o. IsOutcome o (Integer a) (Integer b) c.in_range-in-Subtract.result) (sym c.in-Subtract.is)
    (ranged binary.Subtract a b (a -ℤ b) c.checked_sub.result c.in_range-in-Subtract.result refl made c.in_range-in-Subtract.ensures)

pub returns-in-Multiply : goal.returns-in-Multiply
returns-in-Multiply c =
    let a = c.args.left in
    let b = c.args.right in
    let made = simp (to_z-of_z, c.ranges.left, c.ranges.right) at c.checked_mul.ensures in
    subst (λ o. IsOutcome o (Integer a) (Integer b) c.in_range-in-Multiply.result) (sym c.in-Multiply.is)
    (ranged binary.Multiply a b (a *ℤ b) c.checked_mul.result c.in_range-in-Multiply.result refl made c.in_range-in-Multiply.ensures)
