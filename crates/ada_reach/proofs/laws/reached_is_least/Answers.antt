use Rattle.std.specs.Prelude.{IsTrue}
use Rattle.ada_reach.specs.Graph.{stays, goes}
use Rattle.ada_reach.proofs.Reaching.{least}
use Rattle.ada_reach.proofs.laws.reached_is_least.Goals as goal

pub returns : goal.returns
returns c = record {
  starts = λ graph starts n has is. (n, has, stays is);
  closed = λ graph starts a b (start, has, r) e is. (start, has, goes r e is);
  least = λ graph starts set has closed n r. least graph starts (λ m. IsTrue (set m)) has closed n r;
}
