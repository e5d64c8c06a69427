use Rattle.std.proofs.Common.{◌≡◌, List, length, map, refl, sym, ap, ◌∙◌, subst}
use Rattle.std.proofs.lemmas.Bool.{ltb-true}
use Rattle.std.proofs.lemmas.Option.{slice_get-map, slice_get_read}
use Rattle.std.specs.List.{slice_get}
use Rattle.std.specs.Prelude.{Option, Some, option_map}
use Rattle.ada_operations.specs.View.{BreaksIn, HasFaultIn, IsFirst, IsFirstRule}
use Rattle.ada_operations.proofs.Checking.{broken}
use Rattle.ada_program.specs.declared.program.Procedure.{Procedure}
use Rattle.ada_program.specs.declared.program.ProcedureNo.{ProcedureNo}
use Rattle.ada_program.specs.ProgramForm.{body_form, program_form}
use Rattle.ada_operations.proofs.check.fault_of.Goals as goal

pub returns-in-Some-broken : goal.returns-in-Some-broken
returns-in-Some-broken c =
    let p = program_form c.args.program.now in
    let q = c.in-Some.number in
    let procedure = c.in-Some-get.procedure.now in
    let items = c.args.program.now.procedures.items in
    let found = c.in-Some-get.ensures.lookup in
    let there : slice_get c.deref.result.now q.0 ≡ Some procedure =
    slice_get_read c.deref.result.now (length c.deref.result.now) q.0 procedure refl (ltb-true q.0 (length c.deref.result.now) (sym found.0)) found.1 in
    let at : slice_get (map body_form items) q.0 ≡ Some (body_form procedure) =
    slice_get-map body_form items q.0 ∙ ap (option_map body_form) (ap (λ (xs : List Procedure). slice_get xs q.0) (sym c.deref.ensures.value) ∙ there) in
    subst (λ (o : Option ProcedureNo). IsFirst (HasFaultIn p o c.args.operation c.args.record_type) (Some (procedure.start, c.in-Some-broken.rule))) (sym c.in-Some.is)
    (broken p q (body_form procedure) c.args.operation c.args.record_type c.in-Some-broken.rule at
    (subst (IsFirstRule (BreaksIn p q c.args.operation c.args.record_type)) c.in-Some-broken.is c.in_ok-broken.ensures))
