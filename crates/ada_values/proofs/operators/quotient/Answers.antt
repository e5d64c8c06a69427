-- An exact result in range or not.
use Rattle.std.proofs.Common.{arith, ◌≢◌, pos}
use Rattle.std.proofs.lemmas.Int.{to_z-of_z, ints}
use Rattle.ada_values.proofs.Outcomes.{divided_outcome}
use Rattle.ada_values.proofs.operators.quotient.Goals as goal

pub returns-else-right-eq0 : goal.returns-else-right-eq0
returns-else-right-eq0 c =
    let made = simp (to_z-of_z, c.ranges.left, c.ranges.right) at c.checked_div.ensures in
    let test = c.if-right-eq0.false in
    let nonzero : c.args.right ≢ pos 0 = grind (arith, ints) in
    divided_outcome c.args.left c.args.right c.checked_div.result c.in_range.result c.ranges.right nonzero made c.in_range.ensures
