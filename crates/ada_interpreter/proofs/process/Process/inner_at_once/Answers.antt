use Rattle.std.proofs.Common.{refl}
use Rattle.ada_program.specs.Form.{repeats_form, counts_form}
use Rattle.ada_interpreter.proofs.CommonStepLemmas.{goes_once, some_then}
use Rattle.ada_interpreter.proofs.process.Process.inner_at_once.Goals as goal

pub returns-in-Loop : goal.returns-in-Loop
returns-in-Loop c program k runs =
    rw (c.in-Loop.is, repeats_form c.in-Loop.condition c.in-Loop.statements c.in-Loop.end, c.as_slice-in-Loop.ensures.value, c.as_ref.ensures.value) (goes_once refl)

pub returns-in-For : goal.returns-in-For
returns-in-For c program k runs =
    rw (c.in-For.is, counts_form c.in-For.parameter c.in-For.first c.in-For.last c.in-For.statements c.in-For.end)
    (some_then c.counts_at_once.result _ _ (λ inner behind. record { mid = _; comes = refl; behind = behind }) (rw c.as_slice-in-For.ensures.value at (c.counts_at_once.ensures program k runs)))
