-- Only one outcome is possible.
use Rattle.std.proofs.Common.{rules, refl, Ok, Err, FitsSigned, w32}
use Rattle.std.proofs.lemmas.Int.{to_z-of_z}
use Rattle.ada_values.specs.declared.fault.OperatorFault.TheVariants.{Overflow}
use Rattle.ada_values.specs.Outcome.{outcome_of}
use Rattle.ada_values.proofs.Outcomes.{found}
use Rattle.ada_values.proofs.Results.{outcome_is, is_the_outcome}
use Rattle.ada_values.proofs.operators.binary.Goals as goal

pub returns-in-Integer-Integer-clause-value : goal.returns-in-Integer-Integer-clause-value
returns-in-Integer-Integer-clause-value c =
    let in_left : FitsSigned w32 c.in-Integer-Integer.left = search rules in
    let in_right : FitsSigned w32 c.in-Integer-Integer.right = search rules in
    λ value. found _ _ _ _ _ _ (Ok value) c.in-Integer-Integer.is-0 c.in-Integer-Integer.is-1 (simp (to_z-of_z, in_left, in_right) at c.of_integers.ensures)

pub returns-in-Integer-Integer-clause-overflow : goal.returns-in-Integer-Integer-clause-overflow
returns-in-Integer-Integer-clause-overflow c =
    let in_left : FitsSigned w32 c.in-Integer-Integer.left = search rules in
    let in_right : FitsSigned w32 c.in-Integer-Integer.right = search rules in
    found _ _ _ _ _ _ (Err Overflow) c.in-Integer-Integer.is-0 c.in-Integer-Integer.is-1 (simp (to_z-of_z, in_left, in_right) at c.of_integers.ensures)

pub returns-in-Integer-Integer-clause-outcome : goal.returns-in-Integer-Integer-clause-outcome
returns-in-Integer-Integer-clause-outcome c =
    let in_left : FitsSigned w32 c.in-Integer-Integer.left = search rules in
    let in_right : FitsSigned w32 c.in-Integer-Integer.right = search rules in
    (found _ _ _ _ _ _ (outcome_of c.args.operator c.args.left c.args.right) c.in-Integer-Integer.is-0 c.in-Integer-Integer.is-1 (simp (to_z-of_z, in_left, in_right) at c.of_integers.ensures)).1
    (outcome_is c.args.operator c.args.left c.args.right)

pub returns-in-Boolean-Boolean-clause-outcome : goal.returns-in-Boolean-Boolean-clause-outcome
returns-in-Boolean-Boolean-clause-outcome c =
    rw (c.in-Boolean-Boolean.is-0, c.in-Boolean-Boolean.is-1) (is_the_outcome _ _ _ _ c.of_booleans.ensures)

pub returns-in_default-clause-outcome : goal.returns-in_default-clause-outcome
unfolding outcome_of
returns-in_default-clause-outcome c = rw (c.in_default.is-0, c.in_default.is-1) refl

pub returns-in_default-2-clause-outcome : goal.returns-in_default-2-clause-outcome
unfolding outcome_of
returns-in_default-2-clause-outcome c = rw (c.in_default.is-0, c.in_default.is-1) refl
