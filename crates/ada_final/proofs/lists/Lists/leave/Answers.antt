-- A list is entered under this number, so the numbers that wait are not all, and there is room for one more.
use Rattle.std.proofs.Common.{refl, arith}
use Rattle.ada_final.proofs.UnusedLemmas.{has_room}
use Rattle.ada_final.proofs.lists.Lists.leave.Goals as goal

pub push_reserved-requires : goal.push_reserved-requires
push_reserved-requires c =
    omega (arith, has_room c.self.inside.slots.items c.self.inside.unused.items _ c.args.list c.self.invariant (rw (c.self.view_is, c.requires) refl))
