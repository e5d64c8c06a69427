use Rattle.std.proofs.Common.{ℕ, Bool, ap, arith}
use Rattle.std.proofs.lemmas.Grind.{common_steps}
use Rattle.ada_flow.proofs.losing.freed_at_ends.Goals as goal

pub types-preserved : goal.types-preserved
types-preserved c = λ t.
    let freed = ap (λ (may : ℕ → Bool). may t) c.freed_at_end.ensures in
    let added = c.in_ok-add.ensures t in
    let before = c.types.invariant t in
    grind (arith, common_steps)
