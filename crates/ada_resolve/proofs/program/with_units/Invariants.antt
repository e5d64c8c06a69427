use Rattle.std.proofs.Common.{◌≡◌, map, drop}
use Rattle.ada_tree.specs.Names.{name_of}
use Rattle.ada_resolve.specs.Resolution.{units_of}
use Rattle.ada_resolve.proofs.program.with_units.Given as goal

-- what is left, with the units so far, is what comes of all
abbrev pub invariant-loop-name : goal.invariant-loop-name
invariant-loop-name l = units_of (map name_of (drop l.name-index l.names)) l.units ≡ units_of (map name_of l.names) l.initial.units
