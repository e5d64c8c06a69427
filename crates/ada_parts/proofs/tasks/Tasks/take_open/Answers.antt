use Rattle.std.proofs.Common.{◌++◌, List, ap, ◌∙◌, arith}
use Rattle.ada_parts.specs.declared.tasks.Component.{Component}
use Rattle.ada_parts.specs.declared.tasks.Step.{Step}
use Rattle.ada_parts.specs.Task.{Task, opened, without}
use Rattle.ada_parts.specs.View.{left_in}
use Rattle.ada_parts.proofs.Away.{open_within, open_read, taken_is}
use Rattle.ada_parts.proofs.tasks.Tasks.take_open.Goals as goal

pub overflow_sub-len : goal.overflow_sub-len
overflow_sub-len c =
    let h = open_within c.self.inside.steps.items c.self.inside.components.items c.args.self.now c.args.i c.self.view_is c.requires.is_open in
    grind (arith, h, c.len.ensures)

pub overflow_sub-len-2 : goal.overflow_sub-len-2
overflow_sub-len-2 c =
    let h = open_within c.self.inside.steps.items c.self.inside.components.items c.args.self.now c.args.i c.self.view_is c.requires.is_open in
    grind (arith, h, c.len.ensures)

pub index-component-requires : goal.index-component-requires
index-component-requires c =
    let h = open_within c.self.inside.steps.items c.self.inside.components.items c.args.self.now c.args.i c.self.view_is c.requires.is_open in
    grind (arith, h, c.len.ensures)

pub returns-clause-ok : goal.returns-clause-ok
returns-clause-ok c =
    let is = open_read c.self.inside.steps.items c.self.inside.components.items c.args.self.now c.args.i c.len.result c.index-component.result.now c.self.view_is c.requires.is_open (grind (arith, c.len.ensures)) c.index-component.ensures in
    let steps = ap (λ (x : List Step). without (left_in x c.reserve.new.self.items) c.args.i) c.reserve-2.ensures.items in
    let held = ap (λ (x : List Component). without (left_in c.self.inside.steps.items x) c.args.i) c.reserve.ensures.items in
    let rest = c.take_away.ensures.taken ∙ steps ∙ held ∙ ap (λ (x : List Task). without x c.args.i) c.self.view_is in
    taken_is c.args.shapes.now c.args.direction c.args.self.now (left_in c.put_component.new.steps.items c.put_component.new.components.items) c.args.i c.index-component.result.now is
    (c.put_component.ensures.put ∙ ap (λ (x : List Task). opened c.args.shapes.now c.args.direction c.index-component.result.now.of c.index-component.result.now.first ++ x) rest)
