-- None of those that were passed has the number.
use Rattle.std.proofs.Common.{◌≡◌, drop}
use Rattle.ada_program.specs.Controlled.{type_numbered}
use Rattle.ada_interpreter.proofs.tables.type_numbered.Given as goal

abbrev pub invariant-loop-definition : goal.invariant-loop-definition
invariant-loop-definition l = type_numbered (drop l.definition-index l.types) l.number ≡ type_numbered l.types l.number
