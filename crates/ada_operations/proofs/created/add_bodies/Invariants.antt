use Rattle.std.proofs.Common.{◌≡◌, map, drop}
use Rattle.std.specs.Prelude.{flat_map}
use Rattle.ada_operations.specs.Created.{body_collections}
use Rattle.ada_operations.specs.View.{with_parts}
use Rattle.ada_program.specs.ProgramForm.{body_form}
use Rattle.ada_operations.proofs.created.add_bodies.Given as goal

-- what is left leads to what all of it leads to
abbrev pub invariant-procedures : goal.invariant-procedures
invariant-procedures l =
    with_parts (flat_map body_collections (map body_form (drop l.procedure-index l.procedures))) l.places.table.items
    ≡ with_parts (flat_map body_collections (map body_form l.procedures)) l.fn.places.table.items
