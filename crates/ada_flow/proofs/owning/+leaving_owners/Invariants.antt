use Rattle.std.proofs.Common.{◌≡◌, ◌+◌, ◌*◌, drop, map}
use Rattle.std.specs.List.{list_any}
use Rattle.ada_flow.specs.Flow.{leaves_within}
use Rattle.ada_program.specs.Parts.{is_record_among}
use Rattle.ada_program.specs.ProgramForm.{part_form, type_form}
use Rattle.ada_flow.proofs.owning.+leaving_owners.Given as goal

abbrev pub decreases-leaves_within : goal.decreases-leaves_within
decreases-leaves_within l = 3 * l.depth

abbrev pub decreases-has_leaving_component : goal.decreases-has_leaving_component
decreases-has_leaving_component l = 3 * l.depth + 2

abbrev pub decreases-have_leaving : goal.decreases-have_leaving
decreases-have_leaving l = 3 * l.depth + 1

-- what is left tells of all
abbrev pub invariant-have_leaving-parts : goal.invariant-have_leaving-parts
invariant-have_leaving-parts l =
    list_any (λ p. is_record_among (leaves_within (map type_form l.types) l.depth) p.kind) (map part_form (drop l.part-index l.parts))
    ≡ list_any (λ p. is_record_among (leaves_within (map type_form l.types) l.depth) p.kind) (map part_form l.parts)
