use Rattle.std.proofs.Common.{◌≡◌, ◌+◌, take}
use Rattle.std.specs.List.{sum_by}
use Rattle.ada_parts.specs.Shape.{own_parts, parts_of}
use Rattle.ada_parts.proofs.shapes.Shapes.parts_with.Given as goal

abbrev pub invariant-loop-of : goal.invariant-loop-of
invariant-loop-of l =
    l.parts ≡ own_parts (record { controlled = l.controlled; components = l.components }) + sum_by (parts_of l.self) (take l.of-index l.components)
