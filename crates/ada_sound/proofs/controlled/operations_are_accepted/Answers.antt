-- By nineteen programs and their runs.
use Rattle.ada_sound.proofs.ExampleOperations as operations
use Rattle.ada_sound.proofs.ExampleTidying as tidying
use Rattle.ada_sound.proofs.ExampleOverwriting as overwriting
use Rattle.ada_sound.proofs.ExampleEmptying as emptying
use Rattle.ada_sound.proofs.ExampleBoxing as boxing
use Rattle.ada_sound.proofs.ExampleReleasing as releasing
use Rattle.ada_sound.proofs.ExampleUnshelving as unshelving
use Rattle.ada_sound.proofs.ExampleLeaving as leaving
use Rattle.ada_sound.proofs.ExampleNesting as nesting
use Rattle.ada_sound.proofs.ExampleHousing as housing
use Rattle.ada_sound.proofs.ExampleStocking as stocking
use Rattle.ada_sound.proofs.ExampleAllocating as allocating
use Rattle.ada_sound.proofs.ExampleUndoing as undoing
use Rattle.ada_sound.proofs.ExampleFilling as filling
use Rattle.ada_sound.proofs.ExampleEquipping as equipping
use Rattle.ada_sound.proofs.ExampleMetering as metering
use Rattle.ada_sound.proofs.ExampleTagging as tagging
use Rattle.ada_sound.proofs.ExampleDuplicating as duplicating
use Rattle.ada_sound.proofs.ExamplePairing as pairing
use Rattle.ada_sound.proofs.ExampleCopying as copying
use Rattle.ada_sound.proofs.controlled.operations_are_accepted.Goals as goal

pub returns : goal.returns
returns c = record {
  operates = (
    operations.operating,
    operations.operating_operations,
    operations.operating_bodies,
    operations.operating_declares,
    operations.operating_form,
    operations.operating_handles,
    operations.operating_accepted,
    operations.operates,
  );
  tidies = (
    tidying.tidying,
    tidying.tidying_overrides,
    tidying.tidying_bodies,
    tidying.tidying_declares,
    tidying.tidying_form,
    tidying.tidying_accepted,
    tidying.tidies,
    tidying.is_spoken_of,
  );
  overwrites = (
    overwriting.overwriting,
    overwriting.overwriting_overrides,
    overwriting.overwriting_bodies,
    overwriting.overwriting_declares,
    overwriting.overwriting_form,
    overwriting.overwriting_accepted,
    overwriting.overwrites,
  );
  empties = (
    emptying.emptying,
    emptying.emptying_overrides,
    emptying.emptying_has,
    emptying.emptying_declares,
    emptying.emptying_does,
    emptying.emptying_accepted,
    emptying.empties,
    emptying.is_spoken_of,
  );
  boxes = (
    boxing.boxing,
    boxing.boxing_overrides,
    boxing.boxing_has,
    boxing.boxing_declares,
    boxing.boxing_does,
    boxing.boxing_accepted,
    boxing.boxes,
  );
  releases = (
    releasing.releasing,
    releasing.releasing_overrides,
    releasing.releasing_has,
    releasing.releasing_declares,
    releasing.releasing_does,
    releasing.releasing_accepted,
    releasing.releases,
  );
  unshelves = (
    unshelving.unshelving,
    unshelving.unshelving_overrides,
    unshelving.unshelving_has,
    unshelving.unshelving_declares,
    unshelving.unshelving_does,
    unshelving.unshelving_accepted,
    unshelving.unshelves,
  );
  leaves = (
    leaving.leaving,
    leaving.leaving_overrides,
    leaving.leaving_has,
    leaving.leaving_declares,
    leaving.leaving_does,
    leaving.leaving_accepted,
    leaving.leaves,
  );
  names_gone = (
    leaving.leaving_three,
    leaving.three_overrides,
    leaving.three_has,
    leaving.three_declares,
    leaving.three_does,
    leaving.three_accepted,
    leaving.is_spoken_of,
  );
  nests = (
    nesting.nesting,
    nesting.holder_overrides,
    nesting.keeper_overrides,
    nesting.nesting_has,
    nesting.nesting_declares,
    nesting.nesting_does,
    nesting.nesting_accepted,
    nesting.nests,
    nesting.is_spoken_of,
  );
  houses = (
    housing.housing,
    housing.holder_overrides,
    housing.keeper_overrides,
    housing.housing_has,
    housing.housing_declares,
    housing.housing_does,
    housing.housing_accepted,
    housing.houses,
    housing.is_spoken_of,
  );
  stocks = (
    stocking.stocking,
    stocking.holder_overrides,
    stocking.keeper_overrides,
    stocking.stocking_has,
    stocking.stocking_declares,
    stocking.stocking_does,
    stocking.stocking_accepted,
    stocking.stocks,
    stocking.is_refused,
    stocking.is_spoken_of,
  );
  allocates = (
    allocating.allocating,
    allocating.allocating_overrides,
    allocating.allocating_has,
    allocating.allocating_declares,
    allocating.allocating_does,
    allocating.allocating_handles,
    allocating.allocating_accepted,
    allocating.allocates,
    allocating.is_refused,
  );
  undoes = (
    undoing.undoing,
    undoing.undoing_overrides,
    undoing.undoing_has,
    undoing.undoing_declares,
    undoing.undoing_does,
    undoing.undoing_handles,
    undoing.undoing_accepted,
    undoing.undoes,
  );
  fills = (
    filling.filling,
    filling.filling_overrides,
    filling.filling_has,
    filling.filling_declares,
    filling.filling_does,
    filling.filling_handles,
    filling.filling_accepted,
    filling.fills,
    filling.is_undone,
  );
  equips = (
    equipping.equipping,
    equipping.tag_overrides,
    equipping.box_overrides,
    equipping.equipping_has,
    equipping.equipping_declares,
    equipping.equipping_does,
    equipping.equipping_accepted,
    equipping.equips,
    equipping.is_refused,
  );
  tags = (
    tagging.tagging,
    tagging.tag_overrides,
    tagging.box_overrides,
    tagging.tagging_has,
    tagging.tagging_declares,
    tagging.tagging_does,
    tagging.tagging_accepted,
    tagging.tags,
    tagging.is_refused,
    tagging.is_spoken_of,
  );
  meters = (
    metering.metering,
    metering.tag_overrides,
    metering.box_overrides,
    metering.meter_overrides,
    metering.metering_has,
    metering.metering_declares,
    metering.metering_does,
    metering.metering_accepted,
    metering.meters,
    metering.is_spoken_of,
  );
  duplicates = (
    duplicating.duplicating,
    duplicating.duplicating_overrides,
    duplicating.duplicating_has,
    duplicating.duplicating_declares,
    duplicating.duplicating_does,
    duplicating.duplicating_accepted,
    duplicating.duplicates,
    duplicating.is_refused,
  );
  pairs = (
    pairing.pairing,
    pairing.pairing_overrides,
    pairing.pairing_has,
    pairing.pairing_declares,
    pairing.pairing_does,
    pairing.pairing_accepted,
    pairing.pairs,
    pairing.is_refused,
  );
  copies = (
    copying.copying,
    copying.copying_overrides,
    copying.copying_has,
    copying.copying_declares,
    copying.copying_does,
    copying.copying_accepted,
    copying.copies,
    copying.is_refused,
  );
}
