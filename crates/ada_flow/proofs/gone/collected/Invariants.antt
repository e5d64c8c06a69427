use Rattle.std.proofs.Common.{◌≡◌, ◌++◌, map, drop}
use Rattle.ada_flow.specs.Flow.{collected}
use Rattle.ada_flow.specs.Told.{type_number}
use Rattle.ada_program.specs.Form.{declaration_form}
use Rattle.ada_flow.proofs.gone.collected.Given as goal

-- what is collected so far, and what is left to collect, are all
abbrev pub invariant-declarations : goal.invariant-declarations
invariant-declarations l =
    map type_number l.types.items ++ collected (map declaration_form (drop l.one-index l.declarations)) ≡ collected (map declaration_form l.declarations)
