use Rattle.std.proofs.Common.{◌≡◌, map, drop}
use Rattle.ada_program.specs.Kept.{types_in}
use Rattle.ada_program.specs.ProgramForm.{part_form}
use Rattle.ada_quiet.specs.InUse.{stand_in_a_row}
use Rattle.ada_quiet.proofs.tracking.stand_in_a_row.Given as goal

-- what is left, from the number reached on, tells of all
abbrev pub invariant-parts : goal.invariant-parts
invariant-parts l =
    stand_in_a_row (types_in l.types) l.from (map part_form (drop l.part-index l.parts)) l.count
    ≡ stand_in_a_row (types_in l.types) 0 (map part_form l.parts) l.count
