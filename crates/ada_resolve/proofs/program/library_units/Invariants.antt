use Rattle.std.proofs.Common.{◌≡◌, map, drop}
use Rattle.ada_tree.specs.Declarations.{clause_of}
use Rattle.ada_resolve.specs.Resolution.{clauses_told, no_units}
use Rattle.ada_resolve.proofs.program.library_units.Given as goal

-- what is left, with the units so far, is what comes of all
abbrev pub invariant-loop-clause : goal.invariant-loop-clause
invariant-loop-clause l =
    clauses_told (map clause_of (drop l.clause-index l.clauses)) l.units ≡
    clauses_told (map clause_of l.clauses) no_units
