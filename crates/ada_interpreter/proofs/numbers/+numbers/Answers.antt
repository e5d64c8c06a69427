use Rattle.std.proofs.Common.{◌≡◌, Some, drop, ◌+◌, arith}
use Rattle.std.proofs.lemmas.Grind.{common_steps}
use Rattle.ada_values.specs.declared.value.Value.TheVariants as scalar
use Rattle.ada_program.specs.Form.{expression_form, links_form}
use Rattle.ada_interpreter.specs.AtOnce as rules
use Rattle.ada_interpreter.proofs.NumberLemmas.{linked}
use Rattle.ada_interpreter.proofs.numbers.+numbers.Goals as goal
use Rattle.ada_interpreter.proofs.numbers.+numbers.Goals.{result_at_once-in-Some, result_at_once-in-None+in_ok-right-in-None}

pub result_at_once-links-preserved : goal.result_at_once-links-preserved
result_at_once-links-preserved t c =
    let item = c.link-item.result in
    let places = c.args.places.now in
    let right : rules.value_at_once places (expression_form item.operand) ≡ Some (scalar.Integer c.match-plain_number.right) = elim c.match-plain_number.branch [
      | result_at_once-in-Some w ↦ grind (arith, common_steps, c.plain_number.ensures, w.in-Some.is, w.right-is)
      | result_at_once-in-None+in_ok-right-in-None w ↦ grind (arith, common_steps, w.number_at_once.ensures, w.in_ok-right-in-None.is, w.in_ok-right-in-None.was, w.right-is)
    ] in
    let next = linked places item.operator (expression_form item.operand) (links_form (drop (c.links.link-index + 1) c.args.links.now)) c.links.value c.match-plain_number.right (scalar.Integer c.in_ok-value.value) right (grind (arith, common_steps, c.in_ok-value.ensures, c.links.value-is, c.match-plain_number.right-is)) in
    grind (arith, common_steps, next, c.links.invariant, c.link-item.is)
