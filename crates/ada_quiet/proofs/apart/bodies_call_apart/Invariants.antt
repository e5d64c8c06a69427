use Rattle.std.proofs.Common.{◌≡◌, map, drop}
use Rattle.std.specs.List.{list_all}
use Rattle.ada_program.specs.Kept.{types_in}
use Rattle.ada_program.specs.ProgramForm.{body_form}
use Rattle.ada_quiet.specs.Apart.{body_calls_apart}
use Rattle.ada_quiet.specs.Known.{is_marked}
use Rattle.ada_quiet.proofs.apart.bodies_call_apart.Given as goal

-- what is left tells of all
abbrev pub invariant-procedures : goal.invariant-procedures
invariant-procedures l =
    list_all (body_calls_apart (types_in l.types) (is_marked l.marks)) (map body_form (drop l.procedure-index l.procedures))
    ≡ list_all (body_calls_apart (types_in l.types) (is_marked l.marks)) (map body_form l.procedures)
