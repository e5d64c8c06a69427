use Rattle.std.proofs.Common.{◌≡◌, drop, map}
use Rattle.ada_flow.specs.Flow.{is_named}
use Rattle.ada_flow.specs.Told.{named_by_items}
use Rattle.ada_program.specs.Form.{item_form, path_form}
use Rattle.ada_flow.proofs.moves.is_named.Given as goal

-- what is left tells of all
abbrev pub invariant-items : goal.invariant-items
invariant-items l =
    is_named (named_by_items (map item_form (drop l.item-index l.items))) (path_form l.path) ≡ is_named (named_by_items (map item_form l.items)) (path_form l.path)
