use Rattle.std.proofs.Common.{◌≡◌, drop}
use Rattle.ada_tree.specs.ExpressionView.{items_of}
use Rattle.ada_resolve.specs.Chains.{links_meant, links_remark}
use Rattle.ada_resolve.specs.Expressions.{after_items, filling_of, items_remark}
use Rattle.ada_resolve.specs.Items.{filled_components, first_filling, names_component}
use Rattle.ada_resolve.specs.Remark.{noted}
use Rattle.ada_resolve.specs.View.{filling_in, known_of, meant_of}
use Rattle.ada_resolve.proofs.resolver.Resolver.+expression.Given as goal

-- the operators that are left, behind what came, make the whole
abbrev pub invariant-chain-links : goal.invariant-chain-links
invariant-chain-links l = record {
  meant : links_meant (known_of l.self) (meant_of l.left) (drop l.link-index l.links) ≡ links_meant (known_of l.self) (meant_of l.initial.left) l.links;
  remark :
      noted (links_remark (known_of l.self) (meant_of l.left) l.spot (drop l.link-index l.links)) l.notes ≡
      noted (links_remark (known_of l.self) (meant_of l.initial.left) l.spot l.links) l.initial.notes;
}

-- the items that are left, from here, make the whole
abbrev pub invariant-items-loop-item : goal.invariant-items-loop-item
invariant-items-loop-item l = record {
  count : l.filling.count ≡ l.item-index;
  filling :
      after_items (known_of l.self) (filled_components (known_of l.self) l.found) (names_component (items_of l.written)) (filling_in l.filling)
      (items_of (drop l.item-index l.written)) ≡
      filling_of (known_of l.self) (filled_components (known_of l.self) l.found) (items_of l.written);
  remark :
      noted (items_remark (known_of l.self) (filled_components (known_of l.self) l.found) (names_component (items_of l.written)) (filling_in l.filling)
      (items_of (drop l.item-index l.written))) l.notes ≡
      noted (items_remark (known_of l.self) (filled_components (known_of l.self) l.found) (names_component (items_of l.written))
      (first_filling (filled_components (known_of l.self) l.found)) (items_of l.written)) l.initial.notes;
}
