use Rattle.std.proofs.Common.{◌≡◌, ◌++◌, map, drop}
use Rattle.ada_program.specs.Form.{declaration_form}
use Rattle.ada_resolve.specs.Objects.{collections_of, missing_collections}
use Rattle.ada_resolve.specs.View.{known_of}
use Rattle.ada_resolve.proofs.resolver.Resolver.collections.Given as goal

-- what is left, from here, makes the whole
abbrev pub invariant-loop-i : goal.invariant-loop-i
invariant-loop-i l =
    map declaration_form l.made.items ++ collections_of l.i (drop l.i (known_of l.self).types) (known_of l.self).here.elaborated ≡
    missing_collections (known_of l.self)
