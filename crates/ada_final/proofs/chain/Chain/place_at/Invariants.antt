use Rattle.std.proofs.Common.{◌-◌, ◌≤◌}
use Rattle.ada_final.specs.Linked.{places}
use Rattle.ada_final.proofs.Following.{Walked}
use Rattle.ada_final.proofs.chain.Chain.place_at.Given as goal

abbrev pub invariant-loop-passed : goal.invariant-loop-passed
invariant-loop-passed g l = Walked (g.P.Pool.user_word l.pool) (places (g.P.Pool.user_word l.pool) l.self) l.passed l.name × (l.passed ≤ l.i)

abbrev pub decreases-loop-passed : goal.decreases-loop-passed
decreases-loop-passed g l = l.i - l.passed
