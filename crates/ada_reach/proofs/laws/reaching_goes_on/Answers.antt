use Rattle.ada_reach.proofs.Reaching.{both, one_edge, first_edge, edge_first}
use Rattle.ada_reach.proofs.laws.reaching_goes_on.Goals as goal

pub returns : goal.returns
returns c = record {
  transitive = both;
  edges = one_edge;
  first = λ graph a b. (first_edge graph a b, edge_first graph a b);
}
