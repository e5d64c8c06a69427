-- By thirty-two programs and their runs.
use Rattle.ada_sound.proofs.Example as example
use Rattle.ada_sound.proofs.ExampleBlocks as blocks
use Rattle.ada_sound.proofs.ExampleTargets as targets
use Rattle.ada_sound.proofs.ExampleOwners as owners
use Rattle.ada_sound.proofs.ExampleBorrowers as borrowers
use Rattle.ada_sound.proofs.ExampleFrees as frees
use Rattle.ada_sound.proofs.ExampleRecords as records
use Rattle.ada_sound.proofs.ExampleCalls as calls
use Rattle.ada_sound.proofs.ExamplePools as pools
use Rattle.ada_sound.proofs.ExampleOperations as operations
use Rattle.ada_sound.proofs.ExampleNewer as newer
use Rattle.ada_sound.proofs.ExampleCrossing as crossing
use Rattle.ada_sound.proofs.needed.rules_are_needed.Goals as goal

pub returns-clause-follows : goal.returns-clause-follows
returns-clause-follows c = (example.following_gone, example.following_breaks, example.follows)

pub returns-clause-ends : goal.returns-clause-ends
returns-clause-ends c = (example.freeing_twice, example.freeing_breaks, example.ends)

pub returns-clause-loops : goal.returns-clause-loops
returns-clause-loops c = (example.losing, example.losing_form, example.losing_breaks, example.loses)

pub returns-clause-exits : goal.returns-clause-exits
returns-clause-exits c = (example.leaving, example.leaving_form, example.leaving_breaks, example.leaves)

pub returns-clause-raises : goal.returns-clause-raises
returns-clause-raises c = (
  blocks.losing_by_raising,
  blocks.losing_by_raising_form,
  blocks.losing_by_raising_handles,
  blocks.losing_by_raising_breaks,
  blocks.losing_by_raising_fine,
  blocks.loses_by_raising,
)

pub returns-clause-operators : goal.returns-clause-operators
returns-clause-operators c = (blocks.overflowing, blocks.overflowing_form, blocks.overflowing_handles, blocks.overflowing_breaks, blocks.overflows)

pub returns-clause-calls : goal.returns-clause-calls
returns-clause-calls c = (
  calls.stopping,
  calls.stopping_declares,
  calls.stopping_form,
  calls.stopping_handles,
  calls.stopping_breaks,
  calls.stopping_at_ends,
  calls.stops,
)

pub returns-clause-outlives : goal.returns-clause-outlives
returns-clause-outlives c = (blocks.outliving, blocks.outliving_form, blocks.outliving_breaks, blocks.outlives)

pub returns-clause-escapes : goal.returns-clause-escapes
returns-clause-escapes c = (blocks.escaping, blocks.escaping_form, blocks.escaping_breaks, blocks.escapes)

pub returns-clause-mistypes : goal.returns-clause-mistypes
returns-clause-mistypes c = (blocks.mistyping, blocks.mistyping_form, blocks.mistyping_ill_formed, blocks.mistypes)

pub returns-clause-stores : goal.returns-clause-stores
returns-clause-stores c = (targets.storing, targets.storing_form, targets.storing_breaks, targets.stores)

pub returns-clause-pairs : goal.returns-clause-pairs
returns-clause-pairs c = (owners.pairing, owners.pairing_form, owners.pairing_breaks, owners.pairs)

pub returns-clause-items : goal.returns-clause-items
returns-clause-items c = (owners.sharing, owners.sharing_form, owners.sharing_breaks, owners.shares)

pub returns-clause-dangles : goal.returns-clause-dangles
returns-clause-dangles c = (borrowers.dangling, borrowers.dangling_form, borrowers.dangling_borrows, borrowers.dangling_breaks, borrowers.dangles)

pub returns-clause-overtakes : goal.returns-clause-overtakes
returns-clause-overtakes c = (
  borrowers.overtaking,
  borrowers.overtaking_form,
  borrowers.overtaking_borrows,
  borrowers.overtaking_breaks,
  borrowers.overtakes,
)

pub returns-clause-passes : goal.returns-clause-passes
returns-clause-passes c = (frees.passing, frees.passing_form, frees.passing_borrows, frees.passing_breaks, frees.passes)

pub returns-clause-doubles : goal.returns-clause-doubles
returns-clause-doubles c = (frees.doubling, frees.doubling_form, frees.doubling_breaks, frees.doubles)

pub returns-clause-nests : goal.returns-clause-nests
returns-clause-nests c = (owners.outlasting, owners.outlasting_form, owners.outlasting_ill_nested, owners.outlasts)

pub returns-clause-copies : goal.returns-clause-copies
returns-clause-copies c = (records.duplicating, records.duplicating_form, records.duplicating_breaks, records.duplicates)

pub returns-clause-shares : goal.returns-clause-shares
returns-clause-shares c = (calls.sharing, calls.sharing_declares, calls.sharing_form, calls.sharing_breaks, calls.shares)

pub returns-clause-spoils : goal.returns-clause-spoils
returns-clause-spoils c = (calls.spoiling, calls.spoiling_declares, calls.spoiling_form, calls.spoiling_handles, calls.spoiling_breaks, calls.spoils)

pub returns-clause-cuts : goal.returns-clause-cuts
returns-clause-cuts c = (calls.cutting, calls.cutting_declares, calls.cutting_form, calls.cutting_breaks, calls.cuts)

pub returns-clause-claims : goal.returns-clause-claims
returns-clause-claims c = (calls.claiming, calls.claiming_declares, calls.claiming_form, calls.claiming_breaks, calls.claims)

pub returns-clause-ruins : goal.returns-clause-ruins
returns-clause-ruins c = (calls.ruining, calls.ruining_declares, calls.ruining_form, calls.ruining_borrows, calls.ruining_breaks, calls.ruins)

pub returns-clause-drains : goal.returns-clause-drains
returns-clause-drains c = (calls.draining, calls.draining_declares, calls.draining_form, calls.draining_borrows, calls.draining_breaks, calls.drains)

pub returns-clause-strips : goal.returns-clause-strips
returns-clause-strips c = (
  calls.stripping,
  calls.stripping_declares,
  calls.stripping_form,
  calls.stripping_handles,
  calls.stripping_breaks,
  calls.strips,
)

pub returns-clause-misplaces : goal.returns-clause-misplaces
returns-clause-misplaces c = (pools.misplacing, pools.misplacing_pools, pools.misplacing_form, pools.misplacing_frees, pools.misplaces)

pub returns-clause-frees_gone : goal.returns-clause-frees_gone
returns-clause-frees_gone c = (
  operations.freeing,
  operations.freeing_operations,
  operations.freeing_bodies,
  operations.freeing_form,
  operations.freeing_uses_own,
  operations.frees_gone,
)

pub returns-clause-follows_gone : goal.returns-clause-follows_gone
returns-clause-follows_gone c = (
  operations.following,
  operations.following_operations,
  operations.following_bodies,
  operations.following_form,
  operations.following_uses_newer,
  operations.follows_gone,
)

pub returns-clause-frees_newer : goal.returns-clause-frees_newer
returns-clause-frees_newer c = (
  newer.clearing,
  newer.clearing_operations,
  newer.clearing_bodies,
  newer.clearing_form,
  newer.clearing_uses_newer,
  newer.clears,
)

pub returns-clause-crosses : goal.returns-clause-crosses
returns-clause-crosses c = (
  crossing.crossing,
  crossing.crossing_overrides,
  crossing.crossing_bodies,
  crossing.crossing_form,
  crossing.crossing_follows,
  crossing.crosses,
)

pub returns-clause-renews : goal.returns-clause-renews
returns-clause-renews c = (
  operations.renewing,
  operations.renewing_overrides,
  operations.renewing_bodies,
  operations.renewing_declares,
  operations.renewing_form,
  operations.renewing_not_in_use,
  operations.renews,
)

pub returns-clause-lets_out : goal.returns-clause-lets_out
returns-clause-lets_out c = (
  operations.escaping,
  operations.escaping_overrides,
  operations.escaping_bodies,
  operations.escaping_declares,
  operations.escaping_form,
  operations.escaping_lets_some_out,
  operations.escapes,
)
