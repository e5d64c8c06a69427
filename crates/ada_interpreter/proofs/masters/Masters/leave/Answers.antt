-- A master without an item has none on the stack.
use Rattle.ada_interpreter.proofs.MasterLemmas.{left_view, left_kept}
use Rattle.ada_interpreter.proofs.masters.Masters.leave.Goals as goal

pub invariant_of-self : goal.invariant_of-self
invariant_of-self c = rw c.shorten.ensures (left_kept c.self.inside.collections.items c.self.inside.pools.items c.self.inside.pool_count c.self.inside.entered c.self.inside.items (rw (← c.self.view_is) at c.requires) c.self.invariant)

pub returns : goal.returns
returns c = rw (c.shorten.ensures, ← c.self.view_is) (left_view c.self.inside.entered c.self.inside.items c.self.invariant.owned (rw (← c.self.view_is) at c.requires))
