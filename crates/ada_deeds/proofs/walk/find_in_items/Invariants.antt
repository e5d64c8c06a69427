use Rattle.std.proofs.Common.{◌≡◌, Bool, ◌||◌, drop, map}
use Rattle.ada_deeds.specs.Forms.{items_do}
use Rattle.ada_deeds.specs.View.{does_found, sought}
use Rattle.ada_deeds.specs.declared.deed.Callee.{Callee}
use Rattle.ada_deeds.specs.declared.deed.Deed.{Deed}
use Rattle.ada_program.specs.Form.{item_form}
use Rattle.ada_program.specs.Kept.{types_in, variables_in}
use Rattle.ada_deeds.proofs.walk.find_in_items.Given as goal

-- what is left tells of all
abbrev pub invariant-items : goal.invariant-items
invariant-items l = (d : Deed) (known : Callee → Bool) →
    (does_found l.found (sought l.search d) known || items_do (types_in l.types) (variables_in l.variables) known (sought l.search d) (map item_form (drop l.item-index l.items)))
    ≡ (does_found l.fn.found (sought l.search d) known || items_do (types_in l.types) (variables_in l.variables) known (sought l.search d) (map item_form l.items))
