use Rattle.ada_parts.proofs.Example as example
use Rattle.ada_parts.proofs.laws.premises_are_met.Goals as goal

pub returns : goal.returns
returns c = record {
  table = example.is_table;
  parts = example.four_parts;
  initialized = example.initialized;
  finalized = example.finalized;
}
