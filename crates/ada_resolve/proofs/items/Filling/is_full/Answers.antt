use Rattle.std.proofs.Common.{◌∙◌, rules, sym, tests}
use Rattle.std.specs.Global.{Vec}
use Rattle.std.specs.Prelude.{Option, is_some}
use Rattle.std.proofs.lemmas.Iterator.{YieldsList-from_slice}
use Rattle.std.proofs.lemmas.Iterator.Search.{all_from_yields_List}
use Rattle.std.proofs.lemmas.List.Folds.{list_all-map}
use Rattle.ada_program.specs.declared.program.Item.{Item}
use Rattle.ada_resolve.specs.View.{optional_items}
use Rattle.ada_resolve.proofs.items.Filling.is_full.Goals as goal

-- each component has its item as each slot does
pub returns : goal.returns
returns c =
    let has_item = λ (slot : Option (Vec Item)). is_some (optional_items slot) in
    all_from_yields_List has_item _ _ _ c.all.ensures.ran (YieldsList-from_slice c.args.self.now.slots.items cc) (λ x b q k. search (rules, tests)) ∙
    sym (list_all-map is_some optional_items c.args.self.now.slots.items)
