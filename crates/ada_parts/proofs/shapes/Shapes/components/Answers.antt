use Rattle.std.proofs.Common.{◌≡◌, ◌+◌, ℕ, List, [], sym, ap, ◌∙◌, subst, arith}
use Rattle.std.specs.List.{sum_by}
use Rattle.ada_parts.specs.Shape.{Shape, IsTable, own_parts, parts_of, shape_of}
use Rattle.ada_parts.proofs.Tables.{parts_step, parts_unknown, shape_unknown}
use Rattle.ada_parts.proofs.Held.{entry_says, known_by, unknown_by}
use Rattle.ada_parts.proofs.shapes.Shapes.components.Goals as goal

pub returns-then-of-len : goal.returns-then-of-len
returns-then-of-len c =
    let table = c.args.self.now in
    let t = c.args.of in
    let lt = known_by c.self.inside.entries.items table t c.len.result c.self.view_is (grind (arith, c.len.ensures)) c.if-of-len.true in
    let says = entry_says c.self.inside.entries.items table t c.index.result.now c.self.view_is lt c.index.ensures in
    let types : c.deref.result.now ≡ (shape_of table t).components = c.deref.ensures.value ∙ sym (ap (λ (s : Shape). s.components) says) in
    let is : IsTable table = subst IsTable c.self.view_is c.self.invariant.table in
    record {
      types = types;
      parts = subst (λ (ts : List ℕ). parts_of table t ≡ own_parts (shape_of table t) + sum_by (parts_of table) ts) (sym types) (parts_step table t is lt);
    }

pub returns-else-of-len : goal.returns-else-of-len
returns-else-of-len c =
    let table = c.args.self.now in
    let t = c.args.of in
    let le = unknown_by c.self.inside.entries.items table t c.len.result c.self.view_is (grind (arith, c.len.ensures)) c.if-of-len.false in
    let none = shape_unknown table t le in
    record {
      types = sym (ap (λ (s : Shape). s.components) none);
      parts = parts_unknown table t le ∙ sym (ap (λ (s : Shape). own_parts s + sum_by (parts_of table) []) none);
    }
