use Rattle.std.proofs.Common.{◌≡◌, drop}
use Rattle.ada_program.specs.WellFormed.{begins_with}
use Rattle.ada_program.proofs.records.begins_with.Given as goal

-- what is left tells of all
abbrev pub invariant-loop-at : goal.invariant-loop-at
invariant-loop-at l = begins_with (drop l.at l.components) (drop l.at l.wanted) ≡ begins_with l.components l.wanted
