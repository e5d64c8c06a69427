use Rattle.std.proofs.Common.{◌≡◌, map, drop}
use Rattle.ada_program.specs.Form.{declaration_form}
use Rattle.ada_program.specs.Nested.{collected}
use Rattle.ada_operations.proofs.created.first_collected.Given as goal

-- what is left creates what all creates
abbrev pub invariant-declarations : goal.invariant-declarations
invariant-declarations l = collected (map declaration_form (drop l.declaration-index l.declarations)) ≡ collected (map declaration_form l.declarations)
