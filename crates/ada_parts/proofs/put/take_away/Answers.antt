use Rattle.std.proofs.Common.{◌≡◌, ◌-◌, ◌<◌, ℕ, suc, zero, List, [], ◌∷◌, ◌++◌, ap, ◌∙◌, arith}
use Rattle.std.specs.Prelude.{Some, is_ok}
use Rattle.ada_parts.specs.declared.tasks.Step.{Step}
use Rattle.ada_parts.specs.declared.tasks.Step.TheVariants.{Treat}
use Rattle.ada_parts.specs.View.{left_in}
use Rattle.ada_parts.proofs.Facts.{pushed}
use Rattle.ada_parts.proofs.Away.{held_open, rest_steps, away}
use Rattle.ada_parts.proofs.put.take_away.Goals as goal

pub overflow_sub-len : goal.overflow_sub-len
overflow_sub-len c =
    let h = held_open c.args.steps.now.items c.args.components.now.items c.args.i c.requires.is_open in
    grind (arith, h, c.len.ensures)

pub overflow_sub-len-2 : goal.overflow_sub-len-2
overflow_sub-len-2 c =
    let h = held_open c.args.steps.now.items c.args.components.now.items c.args.i c.requires.is_open in
    grind (arith, h, c.len.ensures)

pub remove-requires : goal.remove-requires
remove-requires c =
    let h = held_open c.args.steps.now.items c.args.components.now.items c.args.i c.requires.is_open in
    grind (arith, h, c.len.ensures)

-- The steps that are pushed are those that are left.
again : (before : List Step) (others : ℕ) → 0 < others → before ++ Treat (others - 1) ∷ [] ≡ rest_steps before (Some (Treat others))
again before zero some = absurd (omega (arith, some))
again before (suc others) some = ap (λ (n : ℕ). before ++ Treat n ∷ []) (omega arith)

pub returns-then-others-gt0-clause-taken : goal.returns-then-others-gt0-clause-taken
returns-then-others-gt0-clause-taken c =
    let before = c.pop.new.self.items in
    let steps = c.args.steps.now.items in
    let cs = c.args.components.now.items in
    let n = c.len.result - 1 - c.args.i in
    let ok = c.push.ensures.succeeds (grind (arith, c.pop.ensures.cases, c.in-Some-Treat.ensures.cases, c.pop.ensures.capacity, c.requires.step_room)) in
    let e = pushed (is_ok c.push.result) c.push.new.self.items (before ++ Treat (c.in-Some-Treat.others - 1) ∷ []) before ok c.push.ensures.items in
    let a = away steps before (Treat c.in-Some-Treat.others) cs n c.args.i c.remove.result c.requires.is_open c.requires.sizes (c.in-Some-Treat.ensures.items ∙ ap (λ (x : Step). before ++ x ∷ []) c.in-Some-Treat.field-0-is) (let h = held_open steps cs c.args.i c.requires.is_open in grind (arith, h, c.len.ensures)) in
    ap (λ (x : List Step). left_in x c.remove.new.self.items) (e ∙ again before c.in-Some-Treat.others c.if-others-gt0.true)
    ∙ ap (left_in (rest_steps before (Some (Treat c.in-Some-Treat.others)))) c.remove.ensures.items
    ∙ a.left
