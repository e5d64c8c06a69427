use Rattle.std.proofs.Common.{arith}
use Rattle.std.proofs.lemmas.Grind.{common_steps}
use Rattle.ada_interpreter.proofs.CommonStepLemmas.{goes_once}
use Rattle.ada_interpreter.proofs.process.Process.decide_next.Goals as goal

pub returns-in_ok-replace-in-Some-true : goal.returns-in_ok-replace-in-Some-true
returns-in_ok-replace-in-Some-true c program runs =
    let known = rw (c.in-Some-true.is, c.in-Some-true.field-0-test, c.newest.ensures) at c.truth.ensures in
    goes_once (grind (arith, common_steps, known, c.pop.ensures, c.in_ok-replace-in-Some-true.ensures))
