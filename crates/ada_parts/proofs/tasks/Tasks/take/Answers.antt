use Rattle.std.proofs.Common.{refl, sym, arith}
use Rattle.ada_parts.proofs.Away.{taken_none}
use Rattle.ada_parts.proofs.tasks.Tasks.take.Goals as goal

pub returns-else-i-count-clause-ok : goal.returns-else-i-count-clause-ok
returns-else-i-count-clause-ok c =
    taken_none c.args.shapes.now c.args.direction c.args.self.now c.args.i c.in-Pick.count (sym c.in-Pick.ensures.next) (c.in-Pick.ensures.some c.in-Pick.count refl) (omega (arith, c.if-i-count.false))
