use Rattle.std.proofs.Common.{rules, ◌≡◌, length, Some, IfSome, FitsSigned, w32, subst, arith}
use Rattle.std.proofs.lemmas.Int.{to_z-of_z}
use Rattle.std.proofs.lemmas.Grind.{common_steps}
use Rattle.ada_values.specs.declared.value.Value.TheVariants as scalar
use Rattle.ada_program.specs.Form.{expression_form}
use Rattle.ada_interpreter.specs.AtOnce as rules
use Rattle.ada_interpreter.proofs.NumberLemmas.{compared}
use Rattle.ada_interpreter.proofs.numbers.comparison_at_once.Goals as goal

pub returns-then-is_empty : goal.returns-then-is_empty
returns-then-is_empty c =
    let places = c.args.places.now in
    let link = c.in-Some.link.now in
    let none : length c.in-Some.behind.now ≡ 0 = grind (arith, common_steps, c.is_empty.ensures, c.if-is_empty.true) in
    let right : rules.value_at_once places (expression_form link.operand) ≡ Some (scalar.Integer c.in_ok-right.right) = grind (arith, common_steps, c.in_ok-right.ensures) in
    let fits : FitsSigned w32 c.in_ok-right.right = search rules in
    subst (λ x. IfSome c.comparison_of.result (λ truth. x ≡ Some (scalar.Boolean truth))) c.links.invariant
    (compared places c.links.rest.now c.in-Some.behind.now link _ _ c.comparison_of.result c.in-Some.ensures.cases.0 none right (simp (to_z-of_z, fits) at c.comparison_of.ensures))
