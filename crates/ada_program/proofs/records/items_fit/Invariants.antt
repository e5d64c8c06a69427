use Rattle.std.proofs.Common.{◌≡◌, map, drop}
use Rattle.ada_program.specs.Form.{item_form}
use Rattle.ada_program.specs.Kept.{types_in, variables_in}
use Rattle.ada_program.specs.WellFormed.{items_fit}
use Rattle.ada_program.proofs.records.items_fit.Given as goal

-- what is left tells of all
abbrev pub invariant-items : goal.invariant-items
invariant-items l =
    items_fit (types_in l.types) (variables_in l.variables) l.left (map item_form (drop l.item-index l.items))
    ≡ items_fit (types_in l.types) (variables_in l.variables) l.components (map item_form l.items)
