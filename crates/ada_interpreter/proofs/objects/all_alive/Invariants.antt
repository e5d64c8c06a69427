-- Each of those that were passed has a value.
use Rattle.std.proofs.Common.{◌≡◌, map, drop}
use Rattle.ada_meaning.specs.Named.{all_alive}
use Rattle.ada_interpreter.specs.Treatment.{part_form}
use Rattle.ada_interpreter.proofs.objects.all_alive.Given as goal

abbrev pub invariant-loop-part : goal.invariant-loop-part
invariant-loop-part l = all_alive (map part_form (drop l.part-index l.parts)) ≡ all_alive (map part_form l.parts)
