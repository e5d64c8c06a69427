use Rattle.std.proofs.Common.{◌≡◌, map, drop}
use Rattle.ada_program.specs.Kept.{types_in}
use Rattle.ada_program.specs.ProgramForm.{part_form}
use Rattle.ada_program.specs.WellFormed as fits
use Rattle.ada_program.proofs.parts.parts_in_order.Given as goal

-- what is left, from the number reached on, tells of all
abbrev pub invariant-loop-part : goal.invariant-loop-part
invariant-loop-part l =
    fits.parts_in_order (types_in l.types) l.count l.from (map part_form (drop l.part-index l.parts))
    ≡ fits.parts_in_order (types_in l.types) l.count 0 (map part_form l.parts)
