-- The i-th from the newest is the one at `left - 1 - i` from the oldest.
use Rattle.std.proofs.Common.{◌-◌, arith}
use Rattle.ada_final.proofs.ItemLemmas.{taken_view, none_left}
use Rattle.ada_final.proofs.slot.Slot.take_next.Goals as goal

pub returns-then-i-left-clause-taken : goal.returns-then-i-left-clause-taken
returns-then-i-left-clause-taken c =
    taken_view _ c.self.inside.items.items _ c.self.view_is c.requires _ c.args.i (c.len-left.result - 1 - c.args.i) c.remove.result (omega arith) (omega arith) c.remove.ensures.items

pub returns-else-i-left-clause-item : goal.returns-else-i-left-clause-item
returns-else-i-left-clause-item c =
    none_left _ c.self.inside.items.items _ c.self.view_is c.requires c.args.i (omega arith)
