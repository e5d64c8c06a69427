use Rattle.std.proofs.Common.{◌≡◌, drop, map}
use Rattle.ada_effects.specs.Effects.{items_raise}
use Rattle.ada_program.specs.Form.{item_form}
use Rattle.ada_effects.proofs.expressions.items_raise.Given as goal

-- what is left tells of all
abbrev pub invariant-items : goal.invariant-items
invariant-items l = items_raise (map item_form (drop l.item-index l.items)) ≡ items_raise (map item_form l.items)
