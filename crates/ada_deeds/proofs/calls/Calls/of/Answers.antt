use Rattle.std.proofs.Common.{◌≡◌, ℕ, subst, arith}
use Rattle.ada_deeds.specs.Graph.{IsSearched, node_count}
use Rattle.ada_program.specs.ProgramForm.{program_form}
use Rattle.ada_deeds.proofs.calls.Calls.of.Goals as goal

-- at first none is done
pub nodes-init : goal.nodes-init
nodes-init c = c.in_ok-calls.ensures (program_form c.args.program.now) c.args.search

-- at last all nodes are done
pub returns : goal.returns
returns c =
    let here : c.nodes.node ≡ node_count c.args.nodes.procedures c.args.nodes.types = omega (arith, c.nodes-test.false, c.nodes.auto.node-end, c.count-node-end.ensures) in
    subst (λ (n : ℕ). IsSearched (program_form c.args.program.now) c.args.search c.args.nodes.procedures c.args.nodes.types n c.nodes.calls) here c.nodes.invariant
