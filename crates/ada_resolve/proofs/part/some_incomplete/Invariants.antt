use Rattle.std.proofs.Common.{◌≡◌, drop}
use Rattle.ada_resolve.specs.Resolution.{some_incomplete}
use Rattle.ada_resolve.proofs.part.some_incomplete.Given as goal

-- what is left decides
abbrev pub invariant-loop-entity : goal.invariant-loop-entity
invariant-loop-entity l = some_incomplete (drop l.entity-index l.entities) ≡ some_incomplete l.entities
