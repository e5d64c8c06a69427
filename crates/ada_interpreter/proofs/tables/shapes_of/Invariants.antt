-- The types that were passed are in the table.
use Rattle.std.proofs.Common.{◌≡◌}
use Rattle.ada_program.specs.Controlled.{shapes_up_to}
use Rattle.ada_interpreter.proofs.tables.shapes_of.Given as goal

abbrev pub invariant-loop-definition : goal.invariant-loop-definition
invariant-loop-definition l = l.shapes ≡ shapes_up_to l.types l.definition-index
