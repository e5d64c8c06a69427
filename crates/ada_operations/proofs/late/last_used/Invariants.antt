use Rattle.ada_operations.specs.View.{IsLast, IsUsedAt}
use Rattle.ada_operations.proofs.late.last_used.Given as goal

-- the last one of the types so far
abbrev pub invariant-types : goal.invariant-types
invariant-types l = IsLast (IsUsedAt l.facts l.procedure l.access) l.last
