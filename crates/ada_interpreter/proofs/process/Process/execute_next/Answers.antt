use Rattle.std.proofs.Common.{arith}
use Rattle.std.proofs.lemmas.Grind.{common_steps}
use Rattle.ada_program.specs.Form.{chooses_form, repeats_form}
use Rattle.ada_interpreter.proofs.CommonStepLemmas.{goes_once}
use Rattle.ada_interpreter.proofs.process.Process.execute_next.Goals as goal

pub returns-in_ok-choose-in-If : goal.returns-in_ok-choose-in-If
returns-in_ok-choose-in-If c program runs =
    rw (c.in-If.is, chooses_form c.in-If.branches c.in-If.otherwise)
    (goes_once (grind (arith, common_steps, c.in_ok-choose-in-If.ensures, c.in_ok-replace-in-If.ensures, c.as_slice.ensures.value, c.as_slice-in-If.ensures.value)))

pub returns-in_ok-replace_by_two-in-Loop : goal.returns-in_ok-replace_by_two-in-Loop
returns-in_ok-replace_by_two-in-Loop c program runs =
    rw (c.in-Loop.is, repeats_form c.in-Loop.condition c.in-Loop.statements c.in-Loop.end)
    (goes_once (grind (arith, common_steps, c.in_ok-replace_by_two-in-Loop.ensures, c.as_ref.ensures.value, c.as_slice-in-Loop.ensures.value)))
