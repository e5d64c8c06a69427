use Rattle.std.proofs.Common.{false, refl}
use Rattle.ada_program.specs.Form.{expression_form}
use Rattle.ada_meaning.specs.Step as step
use Rattle.ada_interpreter.specs.Process.{state_of}
use Rattle.ada_interpreter.proofs.AtOnceLemmas.{exited}
use Rattle.ada_interpreter.proofs.process.Process.stays_at_once.Goals as goal

pub returns-in-Some-false : goal.returns-in-Some-false
returns-in-Some-false c program k stays runs =
    let s = step.at k (state_of c.args.self.now) in
    let known = rw (c.in-Some-false.is, c.in-Some-false.field-0-test) at c.truth_at_once.ensures in
    rw c.in-Some.is (exited program s (expression_form c.in-Some.condition.now) false runs known.0 known.1 s refl)
