-- The record's components are those of one component, and its controlled part is that of another.
use Rattle.ada_typed.proofs.ExampleMixed.{mixed_gets_stuck}
use Rattle.ada_typed.proofs.laws.a_mixed_path_gets_stuck.Goals as goal

pub returns : goal.returns
returns c = mixed_gets_stuck
