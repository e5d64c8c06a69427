use Rattle.std.proofs.Common.{◌≡◌, map, drop}
use Rattle.std.specs.List.{list_all}
use Rattle.ada_program.specs.Kept.{types_in}
use Rattle.ada_program.specs.ProgramForm.{part_form}
use Rattle.ada_quiet.specs.Calm.{is_calm_part}
use Rattle.ada_quiet.proofs.calm.are_calm_parts.Given as goal

-- what is left tells of all
abbrev pub invariant-parts : goal.invariant-parts
invariant-parts l =
    list_all (λ c. is_calm_part (types_in l.types) l.calm c.kind) (map part_form (drop l.part-index l.parts))
    ≡ list_all (λ c. is_calm_part (types_in l.types) l.calm c.kind) (map part_form l.parts)
