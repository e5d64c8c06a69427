use Rattle.std.proofs.Common.{◌≡◌, ◌≤◌, ◌++◌, take, drop, length}
use Rattle.ada_flow.specs.Flow.{join}
use Rattle.ada_flow.proofs.joins.join_holds.Given as goal

-- what is joined so far, and what is left to join, are all
abbrev pub invariant-loop-number : goal.invariant-loop-number
invariant-loop-number l = record {
  joined : take l.number l.one.items ++ join (drop l.number l.one.items) (drop l.number l.other) ≡ join l.fn.one.items l.fn.other;
  short : length l.one.items ≤ length l.other;
}
