use Rattle.std.proofs.Common.{◌≡◌, map, drop}
use Rattle.ada_meaning.specs.Step.{set_operands, in_front, operands, initial_value}
use Rattle.ada_meaning.specs.Named.{named}
use Rattle.ada_interpreter.specs.Process.{state_of}
use Rattle.ada_interpreter.proofs.process.Process.keep_initial_values.Given as goal

-- once the values of the components that are left are kept, those of all are
abbrev pub invariant-loop-component : goal.invariant-loop-component
invariant-loop-component l =
    set_operands (in_front (map (initial_value named) (drop l.component-index l.components)) (operands (state_of l.self))) (state_of l.self)
    ≡ set_operands (in_front (map (initial_value named) l.components) (operands (state_of l.fn.self))) (state_of l.fn.self)
