use Rattle.std.proofs.Common.{◌≡◌, ℕ, ◌+◌, sym, ◌∙◌, subst, arith}
use Rattle.ada_operations.specs.View.{IsLast, IsUsedAt}
use Rattle.ada_operations.proofs.Using.{used_more, unused_more}
use Rattle.ada_operations.proofs.late.last_used.Goals as goal
use Rattle.ada_operations.proofs.late.last_used.Goals.{then-uses, else-uses}

pub types-preserved : goal.types-preserved
types-preserved c =
    let facts = c.args.facts.now in
    let q = c.args.procedure in
    let u = c.types.access in
    elim c.if-uses.branch [
      | then-uses w ↦
          subst (IsLast (IsUsedAt facts q (u + 1))) (sym (w.last-is ∙ w.later_of-last.ensures))
          (used_more facts q u c.types.last w.at.result c.types.invariant (sym c.uses.ensures ∙ w.if-uses.true) w.at.ensures)
      | else-uses w ↦
          subst (IsLast (IsUsedAt facts q (u + 1))) (sym w.last-is) (unused_more facts q u c.types.last c.types.invariant (sym c.uses.ensures ∙ w.if-uses.false))
    ]

pub returns : goal.returns
returns c =
    let all : c.types.access ≡ c.args.count = omega (arith, c.types.auto.access-end, c.types-test.false) in
    subst (λ (n : ℕ). IsLast (IsUsedAt c.args.facts.now c.args.procedure n) c.types.last) all c.types.invariant
