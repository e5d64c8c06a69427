use Rattle.ada_storage.proofs.Runs as runs
use Rattle.ada_storage.proofs.laws.values_are_finalized_once.Goals as goal

pub returns : goal.returns
returns c = record {
  once = λ last events run. runs.once run;
  born = λ last events run. runs.only_after_birth run;
  by_leaving = λ mid events run last choice m v is born home. runs.by_leaving v choice m last run is born home;
}
