use Rattle.std.proofs.Common.{◌≡◌, map, drop}
use Rattle.ada_effects.specs.Found.{calls_in, implicit_in}
use Rattle.ada_program.specs.ProgramForm.{type_form, body_form, program_form, main_body}
use Rattle.ada_flow.specs.Flow.{leftmost, bodies_flow}
use Rattle.ada_flow.specs.Told.{broken, fault_in, keepings_in}
use Rattle.ada_flow.proofs.bodies.procedures_fault.Given as goal

-- what is found so far, and what is left breaks, is what all break
abbrev pub invariant-procedures : goal.invariant-procedures
invariant-procedures l =
    leftmost (broken l.first)
    (fault_in (bodies_flow (map type_form l.program.types.items) (implicit_in l.implicit) (calls_in l.calls.items) (keepings_in l.kept.items) (map body_form (drop l.procedure-index l.program.procedures.items)) (main_body (program_form l.program))))
    ≡ fault_in (bodies_flow (map type_form l.program.types.items) (implicit_in l.implicit) (calls_in l.fn.calls.items) (keepings_in l.fn.kept.items) (map body_form l.program.procedures.items) (main_body (program_form l.program)))
