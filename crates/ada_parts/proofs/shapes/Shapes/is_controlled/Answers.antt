use Rattle.std.proofs.Common.{sym, ap, arith}
use Rattle.ada_parts.specs.Shape.{Shape}
use Rattle.ada_parts.proofs.Tables.{shape_unknown}
use Rattle.ada_parts.proofs.Held.{entry_says, known_by, unknown_by}
use Rattle.ada_parts.proofs.shapes.Shapes.is_controlled.Goals as goal

pub returns-then-of-len : goal.returns-then-of-len
returns-then-of-len c =
    let lt = known_by c.self.inside.entries.items c.args.self.now c.args.of c.len.result c.self.view_is (grind (arith, c.len.ensures)) c.if-of-len.true in
    sym (ap (λ (s : Shape). s.controlled) (entry_says c.self.inside.entries.items c.args.self.now c.args.of c.index.result.now c.self.view_is lt c.index.ensures))

pub returns-else-of-len : goal.returns-else-of-len
returns-else-of-len c =
    let le = unknown_by c.self.inside.entries.items c.args.self.now c.args.of c.len.result c.self.view_is (grind (arith, c.len.ensures)) c.if-of-len.false in
    sym (ap (λ (s : Shape). s.controlled) (shape_unknown c.args.self.now c.args.of le))
