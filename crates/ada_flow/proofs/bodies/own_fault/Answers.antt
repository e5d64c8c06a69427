use Rattle.std.proofs.Common.{◌≡◌, map, sym, ◌∙◌, subst}
use Rattle.std.proofs.lemmas.List.{length-map}
use Rattle.std.specs.Prelude.{IfOk}
use Rattle.ada_effects.specs.Found.{effects_in}
use Rattle.ada_program.specs.Form.{component_number}
use Rattle.ada_program.specs.ProgramForm.{body_form, type_form, variable_form}
use Rattle.ada_flow.specs.Flow.{Outcome, kept_by}
use Rattle.ada_flow.specs.Told.{keeping_in, keepings_in, tracks_in}
use Rattle.ada_flow.proofs.FirstFaults.{judged_so}
use Rattle.ada_flow.proofs.bodies.own_fault.Goals as goal

pub returns-clause-keeps : goal.returns-clause-keeps
returns-clause-keeps c =
    let b = body_form c.args.procedure.now in
    let own = c.args.procedure.now.variables.items in
    subst (λ (o : Outcome). IfOk c.body_fault.result (λ told. keeping_in told.1 ≡ kept_by o c.args.procedure.now.formals.items))
    (judged_so (map type_form c.args.types.now) (effects_in c.args.effects) (keepings_in c.args.kept.now) c.args.number b
    (map variable_form c.in_ok-variables.variables.items) (tracks_in c.behind-tracks.result) c.len.result (map component_number c.in_ok-components.components.items)
    (rw c.deref-4.ensures.value at c.behind-tracks.ensures)
    (c.len.ensures ∙ c.args.procedure.now.variables.ok.0 ∙ sym (length-map own variable_form))
    (rw c.deref.ensures.value at c.in_ok-components.ensures)
    (rw (c.deref-2.ensures.value, c.deref-3.ensures.value) at c.in_ok-variables.ensures))
    (rw (c.deref-5.ensures.value, c.deref-6.ensures.value, c.deref-7.ensures.value, c.deref-8.ensures.value, c.deref-9.ensures.value, c.deref-10.ensures.value) at c.body_fault.ensures.keeps)
