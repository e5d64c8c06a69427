-- By the two programs whose Adjust allocates.
use Rattle.ada_sound.proofs.ExampleDuplicating as duplicating
use Rattle.ada_sound.proofs.ExampleCopying as copying
use Rattle.ada_sound.proofs.controlled.adjusted_records_are_copied.Goals as goal

pub returns : goal.returns
returns c = record {
  assigned = (
    duplicating.duplicating,
    duplicating.duplicating_overrides,
    duplicating.duplicating_does,
    duplicating.duplicating_accepted,
    duplicating.assigns_owner,
    duplicating.allocates_owner,
  );
  declared = (copying.copying, copying.copying_overrides, copying.copying_does, copying.copying_accepted, copying.declares_owner);
}
