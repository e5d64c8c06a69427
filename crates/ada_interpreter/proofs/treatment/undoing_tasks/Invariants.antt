use Rattle.std.proofs.Common.{◌≡◌, map, take}
use Rattle.ada_parts.specs.Task.{performs}
use Rattle.ada_interpreter.specs.Treatment.{done_parts}
use Rattle.ada_interpreter.proofs.treatment.undoing_tasks.Given as goal

-- those of the parts so far are to be finalized, the newest first
abbrev pub invariant-loop-part : goal.invariant-loop-part
invariant-loop-part l = l.tasks ≡ map (λ p. performs p.of p.number) (done_parts (take l.part-index l.done))
