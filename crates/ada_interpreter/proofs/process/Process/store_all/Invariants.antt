-- The components behind those that are left get something first of all.
use Rattle.std.proofs.Common.{◌≡◌, ◌≤◌, length, drop}
use Rattle.ada_meaning.specs.Step.{at, storing}
use Rattle.ada_meaning.specs.Named.{named}
use Rattle.ada_interpreter.specs.Process.{state_of}
use Rattle.ada_interpreter.proofs.process.Process.store_all.Given as goal

abbrev pub invariant-references : goal.invariant-references
invariant-references l = record {
  left : l.left ≤ length l.references;
  in_front : state_of l.self ≡ at (storing named (drop l.left l.references) (state_of l.fn.self).control) (state_of l.fn.self);
}

abbrev pub decreases-references : goal.decreases-references
decreases-references l = l.left
