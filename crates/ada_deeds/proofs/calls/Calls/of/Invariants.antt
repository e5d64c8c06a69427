use Rattle.ada_deeds.specs.Graph.{IsSearched}
use Rattle.ada_program.specs.ProgramForm.{program_form}
use Rattle.ada_deeds.proofs.calls.Calls.of.Given as goal

-- the callees of the nodes so far have their edges
abbrev pub invariant-nodes : goal.invariant-nodes
invariant-nodes l = IsSearched (program_form l.program) l.search l.nodes.procedures l.nodes.types l.node l.calls
