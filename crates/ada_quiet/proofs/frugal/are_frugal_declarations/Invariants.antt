use Rattle.std.proofs.Common.{◌≡◌, map, drop}
use Rattle.ada_program.specs.Form.{declaration_form}
use Rattle.ada_quiet.specs.Frugal.{are_frugal_declarations}
use Rattle.ada_quiet.specs.Known.{thrift_in}
use Rattle.ada_quiet.proofs.frugal.are_frugal_declarations.Given as goal

-- what is left tells of all
abbrev pub invariant-declarations : goal.invariant-declarations
invariant-declarations l =
    are_frugal_declarations (thrift_in l.thrift) (map declaration_form (drop l.declaration-index l.declarations))
    ≡ are_frugal_declarations (thrift_in l.thrift) (map declaration_form l.declarations)
