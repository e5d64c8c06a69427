use Rattle.std.proofs.Common.{◌≡◌, ◌++◌, drop}
use Rattle.ada_program.specs.Kept.{types_in}
use Rattle.ada_reach.specs.View.{graph_of}
use Rattle.ada_circles.specs.Edges.{from_types}
use Rattle.ada_circles.proofs.edges.push_types.Given as goal

-- with the nodes of the types that are left, all are there
abbrev pub invariant-types : goal.invariant-types
invariant-types l =
    graph_of l.graph.items ++ from_types (types_in l.types) l.count (types_in (drop l.definition-index l.types))
    ≡ graph_of l.initial.graph.items ++ from_types (types_in l.types) l.count (types_in l.types)
