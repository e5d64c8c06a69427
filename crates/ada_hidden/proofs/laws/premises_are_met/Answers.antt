-- Step by step.
use Rattle.ada_hidden.proofs.Example.{premises_are_met}
use Rattle.ada_hidden.proofs.laws.premises_are_met.Goals as goal

pub returns : goal.returns
returns c = premises_are_met
