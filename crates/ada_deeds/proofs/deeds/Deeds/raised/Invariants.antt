use Rattle.std.proofs.Common.{◌≡◌}
use Rattle.ada_deeds.specs.Table.{raised_among}
use Rattle.ada_deeds.proofs.deeds.Deeds.raised.Given as goal

-- the predefined ones, and those of the numbers so far
abbrev pub invariant-numbers : goal.invariant-numbers
invariant-numbers l = l.list.items ≡ raised_among l.number l.self
