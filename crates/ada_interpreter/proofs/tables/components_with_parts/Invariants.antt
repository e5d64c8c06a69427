-- With those that are left, all are there.
use Rattle.std.proofs.Common.{◌≡◌, ◌++◌, drop}
use Rattle.ada_program.specs.Controlled.{components_with_parts}
use Rattle.ada_interpreter.proofs.tables.components_with_parts.Given as goal

abbrev pub invariant-loop-part : goal.invariant-loop-part
invariant-loop-part l =
    l.components.items ++ components_with_parts l.types l.shapes (drop l.part-index l.parts) ≡ components_with_parts l.types l.shapes l.parts
