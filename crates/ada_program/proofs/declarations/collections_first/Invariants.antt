use Rattle.std.proofs.Common.{◌≡◌, cond, map, drop}
use Rattle.std.specs.List.{list_all}
use Rattle.ada_program.specs.Form.{declaration_form}
use Rattle.ada_program.specs.WellFormed.{collections_first, is_object}
use Rattle.ada_program.proofs.declarations.collections_first.Given as goal

-- what is left tells of all; behind a variable it is variables alone
abbrev pub invariant-loop-declaration : goal.invariant-loop-declaration
invariant-loop-declaration l =
    cond l.in_front (collections_first (map declaration_form (drop l.declaration-index l.declarations)))
    (list_all is_object (map declaration_form (drop l.declaration-index l.declarations)))
    ≡ collections_first (map declaration_form l.declarations)
