-- The newest stands last.
use Rattle.std.proofs.Common.{◌-◌, arith}
use Rattle.ada_interpreter.proofs.StackLemmas.{set_newest}
use Rattle.ada_interpreter.proofs.stack.Stack.set_top.Goals as goal

pub returns-then-n-gt0 : goal.returns-then-n-gt0
returns-then-n-gt0 g c = set_newest c.self.inside.items.items c.args.self.now (c.len-n.result - 1) c.args.item c.self.view_is (omega arith)
