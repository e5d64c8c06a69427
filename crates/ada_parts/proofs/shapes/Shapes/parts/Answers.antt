use Rattle.std.proofs.Common.{arith, sym}
use Rattle.ada_parts.proofs.Tables.{parts_unknown}
use Rattle.ada_parts.proofs.Held.{unknown_by}
use Rattle.ada_parts.proofs.shapes.Shapes.parts.Goals as goal

pub returns-else-of-len : goal.returns-else-of-len
returns-else-of-len c =
    let le = unknown_by c.self.inside.entries.items c.args.self.now c.args.of c.len.result c.self.view_is (grind (arith, c.len.ensures)) c.if-of-len.false in
    sym (parts_unknown c.args.self.now c.args.of le)
