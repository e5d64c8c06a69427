use Rattle.std.proofs.Common.{◌≡◌, map, drop}
use Rattle.std.specs.List.{list_all}
use Rattle.ada_program.specs.Form.{item_form}
use Rattle.ada_program.specs.Kept.{types_in}
use Rattle.ada_quiet.specs.Apart.{is_bare_item}
use Rattle.ada_quiet.proofs.apart.are_bare_items.Given as goal

-- what is left tells of all
abbrev pub invariant-items : goal.invariant-items
invariant-items l =
    list_all (is_bare_item (types_in l.types)) (map item_form (drop l.item-index l.items))
    ≡ list_all (is_bare_item (types_in l.types)) (map item_form l.items)
