-- All items stand on the stack.
use Rattle.std.proofs.Common.{◌∙◌, sym}
use Rattle.ada_interpreter.proofs.MasterLemmas.{height_is}
use Rattle.ada_interpreter.proofs.masters.Masters.height.Goals as goal

pub returns : goal.returns
returns c = rw (← c.self.view_is) (c.len.ensures ∙ sym (height_is c.self.inside.entered c.self.inside.items c.self.invariant.owned))
