use Rattle.std.proofs.Common.{◌≡◌, ◌++◌, drop}
use Rattle.ada_flow.specs.Flow.{kept_from}
use Rattle.ada_flow.specs.Told.{held}
use Rattle.ada_flow.proofs.keeping.what_is_kept.Given as goal

-- what is kept so far, and of what is left, is what is kept of all
abbrev pub invariant-loop-number : goal.invariant-loop-number
invariant-loop-number l =
    l.kept.items ++ kept_from (held l.raising) l.number (drop l.number l.formals) ≡ kept_from (held l.raising) 0 l.formals
