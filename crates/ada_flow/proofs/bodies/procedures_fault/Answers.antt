use Rattle.std.proofs.Common.{map}
use Rattle.ada_effects.specs.Found.{calls_in, implicit_in}
use Rattle.ada_program.specs.ProgramForm.{type_form, body_form, program_form, main_body}
use Rattle.ada_flow.specs.Flow.{bodies_flow}
use Rattle.ada_flow.specs.Told.{broken, fault_in, keepings_in}
use Rattle.ada_flow.proofs.FirstFaults.{procedure_step}
use Rattle.ada_flow.proofs.bodies.procedures_fault.Goals as goal

pub procedures-preserved : goal.procedures-preserved
procedures-preserved c =
    let types = map type_form c.args.program.now.types.items in
    let main = main_body (program_form c.args.program.now) in
    procedure_step (broken c.procedures.first) (broken c.in_ok-found.found) (broken c.leftmost-first.result)
    (fault_in (bodies_flow types (implicit_in c.args.implicit.now) (calls_in c.args.calls.now.items) (keepings_in c.args.kept.now.items) (map body_form c.args.program.now.procedures.items) main))
    types (implicit_in c.args.implicit.now) (calls_in c.procedures.calls.items) (calls_in c.procedure_fault.new.calls.items) (keepings_in c.procedures.kept.items) (keepings_in c.procedure_fault.new.kept.items)
    c.args.program.now.procedures.items c.procedures.procedure-index c.procedure-item.result main
    (rw c.deref-procedure-items.ensures.value at c.procedures-test.true) (rw c.deref-procedure-items.ensures.value at c.procedure-item.is)
    (rw c.deref.ensures.value at c.in_ok-found.ensures.found) (rw c.deref.ensures.value at c.in_ok-found.ensures.known) (rw c.deref.ensures.value at c.in_ok-found.ensures.keeps)
    c.leftmost-first.ensures c.procedures.invariant
