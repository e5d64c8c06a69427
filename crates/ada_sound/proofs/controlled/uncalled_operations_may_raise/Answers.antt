-- By two programs and their runs.
use Rattle.ada_sound.proofs.ExampleOperations as operations
use Rattle.ada_sound.proofs.controlled.uncalled_operations_may_raise.Goals as goal

pub returns : goal.returns
returns c = record {
  finalizes = (
    operations.unfinalized,
    operations.unfinalized_overrides,
    operations.unfinalized_bodies,
    operations.unfinalized_declares,
    operations.unfinalized_form,
    operations.unfinalized_would_raise,
    operations.unfinalized_accepted,
    operations.finishes_unfinalized,
  );
  adjusts = (
    operations.unadjusted,
    operations.unadjusted_overrides,
    operations.unadjusted_bodies,
    operations.unadjusted_declares,
    operations.unadjusted_form,
    operations.unadjusted_would_raise,
    operations.unadjusted_accepted,
    operations.finishes_unadjusted,
  );
}
