use Rattle.std.proofs.lemmas.Result.{on_ok_weaker}
use Rattle.ada_interpreter.proofs.CommonStepLemmas.{goes_once}
use Rattle.ada_interpreter.proofs.process.Process.choose_next.Goals as goal

pub returns-in-None : goal.returns-in-None
returns-in-None c program runs = on_ok_weaker c.choose.result (λ new. goes_once new) c.choose.ensures
