use Rattle.std.proofs.Common.{◌≡◌, ◌++◌, map, drop}
use Rattle.ada_program.specs.Form.{declaration_form}
use Rattle.ada_program.specs.Kept.{types_in}
use Rattle.ada_circles.specs.Edges.{to_declared}
use Rattle.ada_circles.proofs.edges.push_declared.Given as goal

-- with the edges of the declarations that are left, all are there
abbrev pub invariant-declarations : goal.invariant-declarations
invariant-declarations l =
    l.edges.items ++ to_declared (types_in l.types) l.procedures (map declaration_form (drop l.declaration-index l.declarations))
    ≡ l.initial.edges.items ++ to_declared (types_in l.types) l.procedures (map declaration_form l.declarations)
