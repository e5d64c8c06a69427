use Rattle.std.proofs.Common.{◌≡◌, ◌-◌, length}
use Rattle.ada_program.specs.Kept.{types_in}
use Rattle.ada_program.specs.WellFormed as fits
use Rattle.ada_program.proofs.records.is_found.Given as goal

-- what is left of the way tells of all
abbrev pub invariant-deeper : goal.invariant-deeper
invariant-deeper l =
    fits.is_found (types_in l.types) (length (types_in l.types) - l._definition-index) l.number l.at
    ≡ fits.is_found (types_in l.types) (length (types_in l.types)) l.number l.fn.place
