use Rattle.std.proofs.Common.{◌-◌, List, length, sym, ap, ◌∙◌}
use Rattle.std.specs.Prelude.{Some}
use Rattle.std.specs.List.{slice_get}
use Rattle.ada_parts.specs.declared.tasks.Step.{Step}
use Rattle.ada_parts.specs.Task.{next}
use Rattle.ada_parts.proofs.Away.{next_treat}
use Rattle.ada_parts.proofs.tasks.Tasks.next.Goals as goal

pub returns-in-Some-Treat-clause-next : goal.returns-in-Some-Treat-clause-next
returns-in-Some-Treat-clause-next c =
    let steps = c.self.inside.steps.items in
    let e = sym (ap (λ (s : Step). Some s) c.in-Some-Treat.field-0-is) ∙ c.in-Some-Treat.ensures.value ∙ ap (λ (xs : List Step). slice_get xs (length xs - 1)) c.deref.ensures.value in
    sym (ap next (sym c.self.view_is) ∙ next_treat steps c.self.inside.components.items c.in-Some-Treat.others e c.self.invariant)
