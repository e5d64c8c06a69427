-- Only one outcome is possible.
use Rattle.std.proofs.Common.{rules, refl, Ok, Err, FitsSigned, w32}
use Rattle.std.proofs.lemmas.Int.{to_z-of_z}
use Rattle.ada_values.specs.declared.fault.OperatorFault.TheVariants.{Overflow}
use Rattle.ada_values.specs.Outcome.{unary_outcome_of}
use Rattle.ada_values.proofs.Results.{is_the_unary_outcome}
use Rattle.ada_values.proofs.Outcomes.{negated, exactly_unary}
use Rattle.ada_values.proofs.operators.unary.Goals as goal

pub returns-in-Minus-Integer-clause-overflow : goal.returns-in-Minus-Integer-clause-overflow
returns-in-Minus-Integer-clause-overflow c =
    let fits : FitsSigned w32 c.in-Minus-Integer.number = search rules in
    let made = simp (to_z-of_z, fits) at c.checked_neg.ensures in
    exactly_unary c.args.operator c.args.operand c.in_range.result (Err Overflow)
    (negated c.args.operator c.args.operand c.in-Minus-Integer.number c.checked_neg.result c.in_range.result c.in-Minus-Integer.is-0 c.in-Minus-Integer.is-1 made c.in_range.ensures)

pub returns-in-Plus-Integer-clause-outcome : goal.returns-in-Plus-Integer-clause-outcome
returns-in-Plus-Integer-clause-outcome c = is_the_unary_outcome c.args.operator c.args.operand (Ok c.args.operand) (search rules)

pub returns-in-Minus-Integer-clause-outcome : goal.returns-in-Minus-Integer-clause-outcome
returns-in-Minus-Integer-clause-outcome c =
    let fits : FitsSigned w32 c.in-Minus-Integer.number = search rules in
    let made = simp (to_z-of_z, fits) at c.checked_neg.ensures in
    is_the_unary_outcome c.args.operator c.args.operand c.in_range.result
    (negated c.args.operator c.args.operand c.in-Minus-Integer.number c.checked_neg.result c.in_range.result c.in-Minus-Integer.is-0 c.in-Minus-Integer.is-1 made c.in_range.ensures)

pub returns-in-Not-Boolean-clause-outcome : goal.returns-in-Not-Boolean-clause-outcome
unfolding unary_outcome_of
returns-in-Not-Boolean-clause-outcome c = rw (c.in-Not-Boolean.is-0, c.in-Not-Boolean.is-1) refl

pub returns-in_default-clause-outcome : goal.returns-in_default-clause-outcome
unfolding unary_outcome_of
returns-in_default-clause-outcome c = rw (c.in_default.is-0, c.in_default.is-1) refl

pub returns-in_default-2-clause-outcome : goal.returns-in_default-2-clause-outcome
unfolding unary_outcome_of
returns-in_default-2-clause-outcome c = rw (c.in_default.is-0, c.in_default.is-1) refl

pub returns-in_default-3-clause-outcome : goal.returns-in_default-3-clause-outcome
unfolding unary_outcome_of
returns-in_default-3-clause-outcome c = rw (c.in_default.is-0, c.in_default.is-1) refl
