use Rattle.std.proofs.Common.{◌≡◌, ◌++◌, map, drop}
use Rattle.ada_flow.specs.Flow.{declared}
use Rattle.ada_flow.specs.Told.{variable_number}
use Rattle.ada_program.specs.Form.{declaration_form}
use Rattle.ada_flow.proofs.gone.declared.Given as goal

-- what is found so far, and what is left to find, are all
abbrev pub invariant-declarations : goal.invariant-declarations
invariant-declarations l =
    map variable_number l.created.items ++ declared (map declaration_form (drop l.one-index l.declarations)) ≡ declared (map declaration_form l.declarations)
