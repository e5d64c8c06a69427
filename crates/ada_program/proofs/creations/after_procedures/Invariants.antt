use Rattle.std.proofs.Common.{◌≡◌, Some, map, drop}
use Rattle.ada_program.specs.Created.{seen_after}
use Rattle.ada_program.specs.ProgramForm.{body_form}
use Rattle.ada_program.specs.WellFormed.{created_in_all}
use Rattle.ada_program.proofs.creations.after_procedures.Given as goal

-- what is left tells of all
abbrev pub invariant-procedures : goal.invariant-procedures
invariant-procedures l =
    seen_after (Some l.seen) (created_in_all (map body_form (drop l.procedure-index l.procedures)))
    ≡ seen_after (Some l.fn.seen) (created_in_all (map body_form l.procedures))
