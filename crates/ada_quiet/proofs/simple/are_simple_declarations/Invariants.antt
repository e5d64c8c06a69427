use Rattle.std.proofs.Common.{◌≡◌, map, drop}
use Rattle.ada_program.specs.Form.{declaration_form}
use Rattle.ada_program.specs.Kept.{types_in}
use Rattle.ada_quiet.specs.Simple.{are_simple_declarations}
use Rattle.ada_quiet.proofs.simple.are_simple_declarations.Given as goal

-- what is left tells of all
abbrev pub invariant-declarations : goal.invariant-declarations
invariant-declarations l =
    are_simple_declarations (types_in l.types) (map declaration_form (drop l.declaration-index l.declarations))
    ≡ are_simple_declarations (types_in l.types) (map declaration_form l.declarations)
