use Rattle.std.proofs.Common.{◌≡◌, map, drop}
use Rattle.ada_program.specs.Form.{declaration_form}
use Rattle.ada_program.specs.Kept.{types_in}
use Rattle.ada_quiet.specs.Apart.{declare_apart}
use Rattle.ada_quiet.proofs.apart.declare_apart.Given as goal

-- what is left tells of all
abbrev pub invariant-declarations : goal.invariant-declarations
invariant-declarations l =
    declare_apart (types_in l.types) (map declaration_form (drop l.declaration-index l.declarations))
    ≡ declare_apart (types_in l.types) (map declaration_form l.declarations)
