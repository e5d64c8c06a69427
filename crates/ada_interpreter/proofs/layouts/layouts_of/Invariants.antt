-- The layouts of the types that were passed are in the table.
use Rattle.std.proofs.Common.{◌≡◌, map}
use Rattle.ada_interpreter.specs.Loaded.{layout_form, layouts_up_to}
use Rattle.ada_interpreter.proofs.layouts.layouts_of.Given as goal

abbrev pub invariant-loop-definition : goal.invariant-loop-definition
invariant-loop-definition l = map layout_form l.layouts.items ≡ layouts_up_to l.types l.definition-index
