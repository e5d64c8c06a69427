use Rattle.std.proofs.Common.{◌≡◌, map, drop}
use Rattle.ada_program.specs.Form.{component_number}
use Rattle.ada_program.specs.Kept.{types_in}
use Rattle.ada_program.specs.WellFormed as fits
use Rattle.ada_quiet.proofs.values.selectors_kind.Given as goal

-- what is left of the path leads where all of it leads
abbrev pub invariant-selectors : goal.invariant-selectors
invariant-selectors l =
    fits.selectors_kind (types_in l.types) l.kind (map component_number (drop l.component-index l.selectors))
    ≡ fits.selectors_kind (types_in l.types) l.fn.first (map component_number l.selectors)
