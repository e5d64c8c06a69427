-- All pools stand on the stack.
use Rattle.std.proofs.Common.{◌∙◌, sym}
use Rattle.ada_interpreter.proofs.MasterLemmas.{count_is}
use Rattle.ada_interpreter.proofs.masters.Masters.pool_count.Goals as goal

pub returns : goal.returns
returns c = rw (← c.self.view_is) (c.self.invariant.counted ∙ sym (count_is c.self.inside.entered c.self.inside.items c.self.invariant.owned))
