use Rattle.ada_storage.proofs.Runs as runs
use Rattle.ada_storage.proofs.Births as births
use Rattle.ada_storage.proofs.Orders as orders
use Rattle.ada_storage.proofs.laws.parts_go_in_order.Goals as goal

pub returns : goal.returns
returns c = record {
  parts_first = births.parts_first;
  wholes_first = λ s before run mid last events choice v cause is later.
      orders.whole_first choice s mid last events v cause (runs.inv_run run runs.first_inv) is later;
  rollbacks = λ s before run mid last events choice v n is later. orders.rollback_reverses before s mid last events choice v n run is later;
}
