-- By what waits for a part, behind operations that it is inside of.
use Rattle.ada_finalized.proofs.InnerParts as inner
use Rattle.ada_finalized.proofs.Twice as twice
use Rattle.ada_finalized.proofs.laws.inner_parts_stand.Goals as goal

pub returns-clause-values_exist : goal.returns-clause-values_exist
returns-clause-values_exist c = twice.inner_values_exist

pub returns-clause-parts_stand : goal.returns-clause-parts_stand
returns-clause-parts_stand c = inner.inner_parts_stand

pub returns-clause-begun_inside : goal.returns-clause-begun_inside
returns-clause-begun_inside c = inner.begun_inside

pub returns-clause-left_to_finalize : goal.returns-clause-left_to_finalize
returns-clause-left_to_finalize c = inner.left_to_finalize_stands
