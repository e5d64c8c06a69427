use Rattle.std.proofs.Common.{sym, subst}
use Rattle.ada_program.specs.ProgramForm.{program_form}
use Rattle.ada_quiet.specs.First.{IsFirst}
use Rattle.ada_reach.specs.View.{graph_of}
use Rattle.ada_circles.specs.Edges.{HasCircleAt}
use Rattle.ada_circles.proofs.Asking.{circle_first}
use Rattle.ada_circles.proofs.first.circle_at.Goals as goal

-- where the body begins, if its node is reached from its edges
pub returns : goal.returns
returns c =
    let p = program_form c.args.program.now in
    subst (IsFirst (HasCircleAt p c.args.number)) (sym c.start_unless.ensures)
    (circle_first p (graph_of c.args.graph.now) c.args.number c.in_ok-circles.circles c.requires c.in_ok-circles.ensures)
