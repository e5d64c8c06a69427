use Rattle.std.proofs.Common.{◌≡◌, ◌++◌, map, drop}
use Rattle.ada_program.specs.Kept.{types_in}
use Rattle.ada_program.specs.ProgramForm.{body_form}
use Rattle.ada_reach.specs.View.{graph_of}
use Rattle.ada_circles.specs.Edges.{from_bodies}
use Rattle.ada_circles.proofs.edges.push_bodies.Given as goal

-- with the nodes of the procedures that are left, all are there
abbrev pub invariant-procedures : goal.invariant-procedures
invariant-procedures l =
    graph_of l.graph.items ++ from_bodies (types_in l.types) l.count (map body_form (drop l.procedure-index l.procedures))
    ≡ graph_of l.initial.graph.items ++ from_bodies (types_in l.types) l.count (map body_form l.procedures)
