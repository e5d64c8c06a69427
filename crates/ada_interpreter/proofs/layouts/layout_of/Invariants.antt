-- With those that are left, all are there.
use Rattle.std.proofs.Common.{◌≡◌, ◌++◌, drop}
use Rattle.ada_interpreter.specs.Loaded.{inner_of}
use Rattle.ada_interpreter.proofs.layouts.layout_of.Given as goal

abbrev pub invariant-loop-part : goal.invariant-loop-part
invariant-loop-part l = l.inner.items ++ inner_of l.types (drop l.part-index l.parts) ≡ inner_of l.types l.parts
