-- One for each component that was passed.
use Rattle.std.proofs.Common.{◌≡◌, map, take}
use Rattle.ada_meaning.specs.Step.{initial_value}
use Rattle.ada_meaning.specs.Named.{named}
use Rattle.ada_interpreter.proofs.values.initial_values.Given as goal

abbrev pub invariant-loop-component : goal.invariant-loop-component
invariant-loop-component l = l.values.items ≡ map (initial_value named) (take l.component-index l.components)
