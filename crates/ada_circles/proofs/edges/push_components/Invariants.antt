use Rattle.std.proofs.Common.{◌≡◌, ◌++◌, map, drop}
use Rattle.ada_program.specs.Kept.{types_in}
use Rattle.ada_program.specs.ProgramForm.{part_form}
use Rattle.ada_circles.specs.Edges.{to_parts}
use Rattle.ada_circles.proofs.edges.push_components.Given as goal

-- with the edges of the components that are left, all are there
abbrev pub invariant-parts : goal.invariant-parts
invariant-parts l =
    l.edges.items ++ to_parts (types_in l.types) l.procedures (map part_form (drop l.part-index l.parts))
    ≡ l.initial.edges.items ++ to_parts (types_in l.types) l.procedures (map part_form l.parts)
