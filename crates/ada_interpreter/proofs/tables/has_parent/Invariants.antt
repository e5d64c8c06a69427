-- None of those that were passed is the parent part.
use Rattle.std.proofs.Common.{◌≡◌, drop}
use Rattle.ada_program.specs.Controlled.{has_parent}
use Rattle.ada_interpreter.proofs.tables.has_parent.Given as goal

abbrev pub invariant-loop-part : goal.invariant-loop-part
invariant-loop-part l = has_parent (drop l.part-index l.parts) ≡ has_parent l.parts
