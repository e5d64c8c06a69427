use Rattle.std.proofs.Common.{◌≡◌, ℕ, length, ap, ◌∙◌, arith}
use Rattle.std.specs.Prelude.{◌==◌, vec_len}
use Rattle.ada_parts.proofs.Away.{left_length}
use Rattle.ada_parts.proofs.tasks.Tasks.is_empty.Goals as goal

pub returns : goal.returns
returns c =
    let steps = c.self.inside.steps.items in
    let cs = c.self.inside.components.items in
    let n = left_length steps cs in
    let m = ap length c.self.view_is in
    let e : vec_len c.self.inside.steps ≡ length c.args.self.now = grind (arith, n, m) in
    c.is_empty.ensures ∙ ap (λ (k : ℕ). k == 0) e
