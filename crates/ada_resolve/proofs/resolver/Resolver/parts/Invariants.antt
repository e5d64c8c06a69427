use Rattle.std.proofs.Common.{◌≡◌, ◌++◌, map, drop}
use Rattle.ada_tree.specs.Names.{ident_of, selector_of}
use Rattle.ada_resolve.specs.Known.{parts_of}
use Rattle.ada_resolve.proofs.resolver.Resolver.parts.Given as goal

-- what is left, behind what is found, makes the whole
abbrev pub invariant-loop-selector : goal.invariant-loop-selector
invariant-loop-selector l =
    map ident_of l.parts.items ++ parts_of (map selector_of (drop l.selector-index l.selectors)) ≡ parts_of (map selector_of l.selectors)
