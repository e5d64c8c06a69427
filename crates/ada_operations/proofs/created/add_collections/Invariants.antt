use Rattle.std.proofs.Common.{◌≡◌, ◌≤◌, map, drop}
use Rattle.ada_operations.specs.View.{with_places}
use Rattle.ada_program.specs.Form.{declaration_form}
use Rattle.ada_program.specs.Nested.{collected}
use Rattle.ada_operations.proofs.created.add_collections.Given as goal

-- what is left leads to what all of it leads to
abbrev pub invariant-declarations : goal.invariant-declarations
invariant-declarations l = record {
  few : l.order ≤ l.declaration-index;
  left : with_places l.part l.order (collected (map declaration_form (drop l.declaration-index l.declarations))) l.places.table.items
      ≡ with_places l.part 0 (collected (map declaration_form l.declarations)) l.fn.places.table.items;
}
