-- One number's place in the lists.
use Rattle.std.specs.Prelude.{List, [], Option, unwrap_or}
use Rattle.ada_final.specs.declared.item.Item.{Item}

-- the items of the list that is entered here, newest first, and no items where none is entered
abbrev pub items_in : Option (List Item) → List Item
items_in slot = unwrap_or slot []
