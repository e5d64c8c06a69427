-- The law: what a step looks at and writes, and what it leaves.

use Rattle.ada_beside.specs.Law.{BodiesStayWithinTheirRecord}
use Rattle.ada_tracked.proofs.Wholes.{assigns_bare}
use Rattle.ada_beside.proofs.Touched.{untouched, unwritten}
use Rattle.ada_beside.proofs.Staying.{goes_on}

-- The body of an operation touches nothing of the object that lies beside the record which is its formal parameter, and the object stays.
pub stays_within : BodiesStayWithinTheirRecord
stays_within types bodies w reaches beside s apart p looks copies within confined = (
  untouched types w reaches beside apart s p looks copies within confined,
  unwritten types w reaches beside apart s p copies within confined,
  goes_on types bodies w reaches s p looks (assigns_bare types w.object beside s copies) within confined,
)
