-- With those of the components that are left, all are there. A component is entered where its type has a less number.
use Rattle.std.proofs.Common.{◌≡◌, ◌++◌, map, drop}
use Rattle.ada_interpreter.specs.Treatment.{part_form}
use Rattle.ada_interpreter.specs.Loaded.{parts_from, parts_within}
use Rattle.ada_interpreter.proofs.loaded.Loaded.+parts.Given as goal

abbrev pub decreases-push_parts : goal.decreases-push_parts
decreases-push_parts l = l.number

abbrev pub invariant-loop-inner : goal.invariant-loop-inner
invariant-loop-inner l =
    map part_form l.parts.items ++ parts_within l.self.program.now.types.items l.base l.number (drop l.inner-index l.inner-items)
    ≡ map part_form l.fn.parts.items ++ parts_from l.self.program.now.types.items l.base l.number
