use Rattle.std.proofs.Common.{◌≡◌, ◌++◌, map, drop}
use Rattle.ada_flow.specs.Reached.{types_within}
use Rattle.ada_program.specs.Kept.{types_in}
use Rattle.ada_reach.specs.View.{graph_of}
use Rattle.ada_flow.proofs.reached.types_graph.Given as goal

-- what is found and what is left are all
abbrev pub invariant-types : goal.invariant-types
invariant-types l = graph_of l.graph.items ++ map types_within (types_in (drop l.definition-index l.types)) ≡ map types_within (types_in l.types)
