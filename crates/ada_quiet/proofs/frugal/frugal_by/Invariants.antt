use Rattle.std.proofs.Common.{◌≡◌, [], map, drop}
use Rattle.ada_program.specs.ProgramForm.{type_form, body_form}
use Rattle.ada_quiet.specs.Frugal.{frugal_from}
use Rattle.ada_quiet.proofs.frugal.frugal_by.Given as goal

-- what is known so far, and what is left, tell of all
abbrev pub invariant-procedures : goal.invariant-procedures
invariant-procedures l =
    frugal_from (map type_form l.program.types.items) l.frugal.items (map body_form (drop l.procedure-index l.program.procedures.items))
    ≡ frugal_from (map type_form l.program.types.items) [] (map body_form l.program.procedures.items)
