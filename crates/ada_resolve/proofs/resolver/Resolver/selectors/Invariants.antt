use Rattle.std.proofs.Common.{◌≡◌, ◌++◌, drop}
use Rattle.std.specs.Prelude.{map}
use Rattle.ada_tree.specs.Names.{selector_of}
use Rattle.ada_program.specs.Form.{component_number}
use Rattle.ada_resolve.specs.Paths.{components_selected, selectors_reached, selectors_remark}
use Rattle.ada_resolve.specs.Remark.{noted}
use Rattle.ada_resolve.specs.View.{known_of}
use Rattle.ada_resolve.proofs.resolver.Resolver.selectors.Given as goal

-- what is selected from here makes the whole
abbrev pub invariant-loop-selector : goal.invariant-loop-selector
invariant-loop-selector l = record {
  reached :
      selectors_reached (known_of l.self) l.at (map selector_of (drop l.selector-index l.selectors)) ≡
      selectors_reached (known_of l.self) l.initial.at (map selector_of l.selectors);
  components :
      map component_number l.components.items ++ components_selected (known_of l.self) l.at (map selector_of (drop l.selector-index l.selectors)) ≡
      map component_number l.initial.components.items ++ components_selected (known_of l.self) l.initial.at (map selector_of l.selectors);
  remark :
      noted (selectors_remark (known_of l.self) l.spot l.at (map selector_of (drop l.selector-index l.selectors))) l.notes ≡
      noted (selectors_remark (known_of l.self) l.spot l.initial.at (map selector_of l.selectors)) l.initial.notes;
}
