use Rattle.std.proofs.Common.{◌≡◌, drop, map}
use Rattle.ada_tree.specs.Names.{is_name, selector_of}
use Rattle.ada_tree.proofs.names.Path.is_name.Given as goal

abbrev pub invariant-loop-selector : goal.invariant-loop-selector
invariant-loop-selector l = is_name (map selector_of (drop l.selector-index l.selector-items)) ≡ is_name (map selector_of l.self.selectors.items)
