use Rattle.std.proofs.Common.{◌≡◌, map, drop}
use Rattle.ada_program.specs.Form.{declaration_form}
use Rattle.ada_program.specs.Kept.{types_in, variables_in}
use Rattle.ada_quiet.specs.Quiet.{are_quiet_declarations}
use Rattle.ada_quiet.proofs.statements.are_quiet_declarations.Given as goal

-- what is left tells of all
abbrev pub invariant-declarations : goal.invariant-declarations
invariant-declarations l =
    are_quiet_declarations (types_in l.types) (variables_in l.variables) (map declaration_form (drop l.declaration-index l.declarations))
    ≡ are_quiet_declarations (types_in l.types) (variables_in l.variables) (map declaration_form l.declarations)
