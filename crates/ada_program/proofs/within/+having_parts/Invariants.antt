use Rattle.std.proofs.Common.{◌≡◌, ◌+◌, ◌*◌, drop, map}
use Rattle.std.specs.List.{list_any}
use Rattle.ada_program.specs.Kept.{types_in}
use Rattle.ada_program.specs.Parts.{is_record_among, has_part_within}
use Rattle.ada_program.specs.ProgramForm.{part_form}
use Rattle.ada_program.proofs.within.+having_parts.Given as goal

abbrev pub decreases-has_part_within : goal.decreases-has_part_within
decreases-has_part_within l = 3 * l.depth

abbrev pub decreases-has_component_with_part : goal.decreases-has_component_with_part
decreases-has_component_with_part l = 3 * l.depth + 2

abbrev pub decreases-have_part : goal.decreases-have_part
decreases-have_part l = 3 * l.depth + 1

-- what is left tells of all
abbrev pub invariant-have_part-components : goal.invariant-have_part-components
invariant-have_part-components l =
    list_any (λ p. is_record_among (has_part_within (types_in l.types) l.depth l.record_type.0) p.kind) (map part_form (drop l.component-index l.components))
    ≡ list_any (λ p. is_record_among (has_part_within (types_in l.types) l.depth l.record_type.0) p.kind) (map part_form l.components)
