use Rattle.std.proofs.Common.{◌≡◌, ◌∷◌, map, drop}
use Rattle.ada_tree.specs.Records.{component_of}
use Rattle.ada_resolve.specs.Kept.{composition_in, kept_from}
use Rattle.ada_resolve.specs.Remark.{noted}
use Rattle.ada_resolve.specs.Records.{components_remark}
use Rattle.ada_resolve.specs.View.{known_of}
use Rattle.ada_resolve.proofs.resolver.Resolver.component_list.Given as goal

-- what is left, from here, makes the whole
abbrev pub invariant-loop-definition : goal.invariant-loop-definition
invariant-loop-definition l = record {
  meant :
      kept_from (known_of l.self) (composition_in l.components) (map component_of (drop l.definition-index l.rest)) ≡
      kept_from (known_of l.self) (composition_in l.fn.before) (map component_of (l.first ∷ l.rest));
  remark :
      noted (components_remark (known_of l.self) (composition_in l.components) (map component_of (drop l.definition-index l.rest))) l.notes ≡
      noted (components_remark (known_of l.self) (composition_in l.fn.before) (map component_of (l.first ∷ l.rest))) l.fn.notes;
}
