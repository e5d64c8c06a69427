use Rattle.std.proofs.Common.{◌≡◌, map, drop}
use Rattle.std.specs.Prelude.{find}
use Rattle.ada_program.specs.Kept.{types_in}
use Rattle.ada_program.specs.ProgramForm.{part_form}
use Rattle.ada_program.specs.WellFormed as fits
use Rattle.ada_program.proofs.records.place_among.Given as goal

-- what is left tells of all
abbrev pub invariant-loop-component : goal.invariant-loop-component
invariant-loop-component l =
    find (fits.has_part (types_in l.types) l.at.part) (map part_form (drop l.component-index l.components))
    ≡ find (fits.has_part (types_in l.types) l.at.part) (map part_form l.components)
