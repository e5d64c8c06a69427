use Rattle.ada_parts.proofs.Ends.{it_ends, there_is_one}
use Rattle.ada_parts.proofs.Runs.{known_opened}
use Rattle.ada_parts.proofs.laws.treatments_end.Goals as goal

pub returns : goal.returns
returns c = record {
  ends = λ shapes direction of first steps calls last table lt run. it_ends shapes direction of first table lt run (known_opened shapes direction of first table lt);
  there_is_one = λ shapes direction of first steps calls last table lt run n e. there_is_one shapes direction of first run n e;
}
