use Rattle.std.proofs.Common.{◌≤◌, length, sym, ◌∙◌, arith}
use Rattle.std.proofs.lemmas.Grind.{common_steps}
use Rattle.ada_deeds.proofs.Exact.{row_here, row_past}
use Rattle.ada_deeds.proofs.deeds.row_at.Goals as goal

-- behind the last number there are no marks
pub returns-in-None : goal.returns-in-None
returns-in-None c =
    let le : length c.args.rows.now ≤ c.args.number = grind (arith, common_steps) in
    sym (row_past c.args.rows.now c.args.number le)

pub returns-in-Some : goal.returns-in-Some
returns-in-Some c =
    c.deref.ensures.value
    ∙ row_here c.args.rows.now c.args.number c.in-Some.row.now c.in-Some.ensures.lookup.3.0 c.in-Some.ensures.lookup.1
