use Rattle.ada_tree.specs.StatementView.{unit_of}
use Rattle.ada_verdict.proofs.Before.{first_in_front}
use Rattle.ada_verdict.proofs.early.first_before.Goals as goal

-- the front is a program
pub returns-in_ok-first_round-in-Ok-clause-first : goal.returns-in_ok-first_round-in-Ok-clause-first
returns-in_ok-first_round-in-Ok-clause-first c =
    first_in_front c.args.fault (unit_of c.args.unit.now) _ _ c.in_ok-first_round-in-Ok.field-0 c.cut.ensures c.in-Ok.ensures.resolves
    c.in_ok-first_round-in-Ok.ensures
