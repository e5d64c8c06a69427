use Rattle.std.proofs.Common.{List, sym, ap, ◌∙◌, subst}
use Rattle.ada_operations.specs.View.{HasFaultAt, IsFirst, found_form}
use Rattle.ada_operations.proofs.Checking.{type_first}
use Rattle.ada_program.specs.declared.program.TypeDefinition.{TypeDefinition}
use Rattle.ada_program.specs.Kept.{types_in}
use Rattle.ada_program.specs.ProgramForm.{program_form}
use Rattle.ada_program.specs.WellFormed.{finalization_of}
use Rattle.ada_operations.proofs.check.fault_at.Goals as goal

pub returns-in_ok-finalize-in-Some : goal.returns-in_ok-finalize-in-Some
returns-in_ok-finalize-in-Some c =
    let p = program_form c.args.program.now in
    subst (IsFirst (HasFaultAt p c.args.number)) (sym c.first_of.ensures)
    (type_first p c.args.number c.in-Some.finalization
    (ap (λ (types : List TypeDefinition). finalization_of (types_in types) c.args.number) (sym c.deref.ensures.value) ∙ sym c.finalization_of.ensures ∙ c.in-Some.is)
    (found_form c.in_ok-adjust-in-Some.adjust) (found_form c.in_ok-finalize-in-Some.finalize) c.in_ok-adjust-in-Some.ensures c.in_ok-finalize-in-Some.ensures)
