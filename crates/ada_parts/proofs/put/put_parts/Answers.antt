use Rattle.std.proofs.Common.{◌≡◌, ◌+◌, ◌-◌, ℕ, List, [], ◌∷◌, ◌++◌, length, sym, ap, ◌∙◌, arith, reverse}
use Rattle.std.specs.Prelude.{is_ok}
use Rattle.std.specs.List.{sum_by}
use Rattle.std.proofs.lemmas.List.{length-append, length-reverse}
use Rattle.std.proofs.lemmas.List.Sums.{sum_by_push}
use Rattle.ada_parts.specs.declared.tasks.Step.TheVariants.{Treat}
use Rattle.ada_parts.specs.Shape.{own_parts, parts_of, shape_of}
use Rattle.ada_parts.specs.Part.{in_order, components_of}
use Rattle.ada_parts.specs.View.{size_of}
use Rattle.ada_parts.proofs.Facts.{pushed}
use Rattle.ada_parts.proofs.Held.{order_length, treatment_put}
use Rattle.ada_parts.proofs.put.put_parts.Goals as goal

-- The steps once the treatment is pushed.
stepped : (c : goal.After-push) → c.push.new.self.items ≡ c.args.steps.now.items ++ Treat (length c.components-types.result.now - 1) ∷ []
stepped c = pushed (is_ok c.push.result) c.push.new.self.items (c.args.steps.now.items ++ Treat (length c.components-types.result.now - 1) ∷ []) c.args.steps.now.items (c.push.ensures.succeeds c.requires.step_room) c.push.ensures.items

-- The components once they are put.
put : (c : goal.After-push) → c.put_all.new.components.items ≡ c.args.components.now.items ++ reverse (components_of c.args.shapes.now c.args.component.of c.args.component.first)
put c =
    let f = parts_of c.args.shapes.now in
    let own = own_parts (shape_of c.args.shapes.now c.args.component.of) in
    let first = c.args.component.first + own in
    let end : first + sum_by f c.components-types.result.now ≡ c.args.component.first + c.count.result = omega (arith, c.count.ensures, c.components-types.ensures.parts) in
    c.put_all.ensures first end
    ∙ ap (λ (ts : List ℕ). c.args.components.now.items ++ reverse (in_order f ts first)) c.components-types.ensures.types

count : (c : goal.After-push) → length (components_of c.args.shapes.now c.args.component.of c.args.component.first) ≡ length c.components-types.result.now
count c =
    order_length (parts_of c.args.shapes.now) (shape_of c.args.shapes.now c.args.component.of).components (c.args.component.first + own_parts (shape_of c.args.shapes.now c.args.component.of))
    ∙ ap length (sym c.components-types.ensures.types)

pub count-requires : goal.count-requires
count-requires c = omega (arith, c.requires.fits)

pub returns-clause-put : goal.returns-clause-put
returns-clause-put c =
    let n = count c in
    treatment_put c.args.steps.now.items c.push.new.self.items c.args.components.now.items c.put_all.new.components.items
    (components_of c.args.shapes.now c.args.component.of c.args.component.first) (length c.components-types.result.now - 1)
    (stepped c) (put c) (omega (arith, n, c.if-types-eq0.false))

pub returns-clause-sizes : goal.returns-clause-sizes
returns-clause-sizes c =
    let cs = components_of c.args.shapes.now c.args.component.of c.args.component.first in
    let n = count c in
    let a = ap (sum_by size_of) (stepped c) ∙ sum_by_push size_of c.args.steps.now.items (Treat (length c.components-types.result.now - 1)) in
    let b = ap length (put c) ∙ length-append c.args.components.now.items (reverse cs) in
    let r = length-reverse cs in
    omega (arith, n, a, b, r, c.if-types-eq0.false)
