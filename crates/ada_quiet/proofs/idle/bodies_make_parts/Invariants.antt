use Rattle.std.proofs.Common.{◌≡◌, map, drop}
use Rattle.std.specs.List.{list_any}
use Rattle.ada_program.specs.Kept.{types_in}
use Rattle.ada_program.specs.ProgramForm.{body_form}
use Rattle.ada_quiet.specs.Idle.{body_makes_parts}
use Rattle.ada_quiet.proofs.idle.bodies_make_parts.Given as goal

-- what is left tells of all
abbrev pub invariant-procedures : goal.invariant-procedures
invariant-procedures l =
    list_any (body_makes_parts (types_in l.types) l.copies) (map body_form (drop l.procedure-index l.procedures))
    ≡ list_any (body_makes_parts (types_in l.types) l.copies) (map body_form l.procedures)
