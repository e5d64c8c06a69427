use Rattle.std.proofs.Common.{◌≡◌, map, drop}
use Rattle.ada_resolve.specs.Kept.{known_type_form}
use Rattle.ada_resolve.specs.Types.{is_designated}
use Rattle.ada_resolve.proofs.resolver.Resolver.is_designated.Given as goal

-- what is left decides
abbrev pub invariant-loop-definition : goal.invariant-loop-definition
invariant-loop-definition l =
    is_designated l.number.0 (map known_type_form (drop l.definition-index l.self.types.items)) ≡ is_designated l.number.0 (map known_type_form l.self.types.items)
