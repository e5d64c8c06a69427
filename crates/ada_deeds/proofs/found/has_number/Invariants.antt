use Rattle.std.proofs.Common.{◌≡◌, drop}
use Rattle.ada_effects.specs.Found.{has_number}
use Rattle.ada_deeds.proofs.found.has_number.Given as goal

-- what is left tells of all
abbrev pub invariant-types : goal.invariant-types
invariant-types l = has_number (drop l.number-index l.types) l.access.0 ≡ has_number l.types l.access.0
