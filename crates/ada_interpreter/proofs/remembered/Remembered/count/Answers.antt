-- Each name that was given counts.
use Rattle.ada_interpreter.proofs.RememberedLemmas.{all_counted}
use Rattle.ada_interpreter.proofs.remembered.Remembered.count.Goals as goal

pub returns : goal.returns
returns c = all_counted c.args.self.now.kept c.args.self.now.created
