use Rattle.std.proofs.Common.{◌≡◌, drop}
use Rattle.ada_flow.specs.Flow.{are_as_good}
use Rattle.ada_flow.proofs.loops.are_as_good.Given as goal

-- what is left tells of all
abbrev pub invariant-loop-number : goal.invariant-loop-number
invariant-loop-number l = are_as_good (drop l.number l.holds) (drop l.number l.start) ≡ are_as_good l.holds l.start
