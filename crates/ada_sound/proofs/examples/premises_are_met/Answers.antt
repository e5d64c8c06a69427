-- By twenty-eight programs and their runs.
use Rattle.ada_sound.proofs.Example as example
use Rattle.ada_sound.proofs.ExampleBlocks as blocks
use Rattle.ada_sound.proofs.ExampleTargets as targets
use Rattle.ada_sound.proofs.ExampleOwners as owners
use Rattle.ada_sound.proofs.ExampleBorrowers as borrowers
use Rattle.ada_sound.proofs.ExampleFrees as frees
use Rattle.ada_sound.proofs.ExampleRecords as records
use Rattle.ada_sound.proofs.ExampleCalls as calls
use Rattle.ada_sound.proofs.ExamplePools as pools
use Rattle.ada_finalized.proofs.Example as finalized
use Rattle.ada_sound.proofs.ExampleControlled as controlled
use Rattle.ada_sound.proofs.examples.premises_are_met.Goals as goal

pub returns-clause-begins : goal.returns-clause-begins
returns-clause-begins c = (example.program, example.accepted, example.reaches)

pub returns-clause-finishes : goal.returns-clause-finishes
returns-clause-finishes c = (example.program, example.accepted, example.finishes)

pub returns-clause-raises : goal.returns-clause-raises
returns-clause-raises c = (example.raising, example.raising_accepted, example.raises)

pub returns-clause-repeats : goal.returns-clause-repeats
returns-clause-repeats c = (example.repeating, example.repeating_form, example.repeating_accepted, example.repeats)

pub returns-clause-returns : goal.returns-clause-returns
returns-clause-returns c = (example.returning, example.returning_form, example.returning_accepted, example.returns)

pub returns-clause-nests : goal.returns-clause-nests
returns-clause-nests c = (example.nesting, example.nesting_form, example.nesting_accepted, example.nests)

pub returns-clause-handles : goal.returns-clause-handles
returns-clause-handles c = (blocks.handling, blocks.handling_form, blocks.handling_handles, blocks.handling_accepted, blocks.handles)

pub returns-clause-encloses : goal.returns-clause-encloses
returns-clause-encloses c = (blocks.enclosing, blocks.enclosing_form, blocks.enclosing_accepted, blocks.encloses)

pub returns-clause-unwinds : goal.returns-clause-unwinds
returns-clause-unwinds c = (blocks.unwinding, blocks.unwinding_form, blocks.unwinding_handles, blocks.unwinding_accepted, blocks.unwinds)

pub returns-clause-counts : goal.returns-clause-counts
returns-clause-counts c = (blocks.counting, blocks.counting_form, blocks.counting_handles, blocks.counting_accepted, blocks.counts)

pub returns-clause-fills : goal.returns-clause-fills
returns-clause-fills c = (targets.filling, targets.filling_form, targets.filling_accepted, targets.fills)

pub returns-clause-owns : goal.returns-clause-owns
returns-clause-owns c = (owners.owning, owners.owning_form, owners.owning_accepted, owners.owns)

pub returns-clause-defaults : goal.returns-clause-defaults
returns-clause-defaults c = (owners.defaulting, owners.defaulting_form, owners.defaulting_accepted, owners.defaults)

pub returns-clause-records : goal.returns-clause-records
returns-clause-records c = (owners.recording, owners.recording_form, owners.recording_accepted, owners.records)

pub returns-clause-walks : goal.returns-clause-walks
returns-clause-walks c = (borrowers.walking, borrowers.walking_form, borrowers.walking_borrows, borrowers.walking_accepted, borrowers.walks)

pub returns-clause-borrows_in_loop : goal.returns-clause-borrows_in_loop
returns-clause-borrows_in_loop c = (borrowers.lending, borrowers.lending_form, borrowers.lending_borrows, borrowers.lending_accepted, borrowers.lends)

pub returns-clause-inserts : goal.returns-clause-inserts
returns-clause-inserts c = (frees.insertion, frees.insertion_form, frees.insertion_borrows, frees.insertion_accepted, frees.inserts)

pub returns-clause-frees_components : goal.returns-clause-frees_components
returns-clause-frees_components c = (frees.freeing, frees.freeing_form, frees.freeing_accepted, frees.frees_components)

pub returns-clause-copies : goal.returns-clause-copies
returns-clause-copies c = (records.copying, records.copying_declares, records.copying_form, records.copying_accepted, records.copies)

pub returns-clause-calls : goal.returns-clause-calls
returns-clause-calls c = (calls.calling, calls.calling_declares, calls.calling_form, calls.calling_handles, calls.calling_accepted, calls.called)

pub returns-clause-borrows_around_calls : goal.returns-clause-borrows_around_calls
returns-clause-borrows_around_calls c = (
  calls.relending,
  calls.relending_declares,
  calls.relending_form,
  calls.relending_borrows,
  calls.relending_accepted,
  calls.relends,
)

pub returns-clause-gives_back : goal.returns-clause-gives_back
returns-clause-gives_back c = (calls.giving, calls.giving_declares, calls.giving_form, calls.giving_handles, calls.giving_accepted, calls.gives_back)

pub returns-clause-lends : goal.returns-clause-lends
returns-clause-lends c = (calls.bumping, calls.bumping_declares, calls.bumping_form, calls.bumping_accepted, calls.bumps)

pub returns-clause-hands_over : goal.returns-clause-hands_over
returns-clause-hands_over c = (calls.renewing, calls.renewing_declares, calls.renewing_form, calls.renewing_accepted, calls.renews)

pub returns-clause-keeps : goal.returns-clause-keeps
returns-clause-keeps c = (calls.dropping, calls.dropping_declares, calls.dropping_form, calls.dropping_handles, calls.dropping_accepted, calls.drops)

pub returns-clause-refers : goal.returns-clause-refers
returns-clause-refers c = (calls.trimming, calls.trimming_declares, calls.trimming_form, calls.trimming_accepted, calls.trims)

pub returns-clause-gives_back_there : goal.returns-clause-gives_back_there
returns-clause-gives_back_there c = (
  calls.replacing,
  calls.replacing_declares,
  calls.replacing_form,
  calls.replacing_borrows,
  calls.replacing_accepted,
  calls.replaces,
)

pub returns-clause-has_pools : goal.returns-clause-has_pools
returns-clause-has_pools c = (pools.pooling, pools.pooling_declares, pools.pooling_pools, pools.pooling_form, pools.pooling_accepted, pools.pools)

pub returns-clause-finalizes : goal.returns-clause-finalizes
returns-clause-finalizes c = (finalized.program, finalized.shapes, finalized.form, controlled.accepted, controlled.finalizes)
