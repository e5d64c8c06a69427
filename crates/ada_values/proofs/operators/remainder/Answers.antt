-- A remainder is in range.
use Rattle.std.proofs.Common.{arith, ◌≡◌, ◌≢◌, pos, sym, subst, int_div, int_rem, FitsSigned, w32, rules}
use Rattle.std.proofs.lemmas.Int.{to_z-of_z, ints}
use Rattle.ada_values.specs.Operators.{IsRemainder, IsInRange}
use Rattle.ada_values.proofs.Division.{divided, fits_in_range}
use Rattle.ada_values.proofs.operators.remainder.Goals as goal

pub returns-else-right-eq0 : goal.returns-else-right-eq0
returns-else-right-eq0 c =
    let a = c.args.left in
    let b = c.args.right in
    let r = c.wrapping_rem.result in
    let made : r ≡ int_rem a b = simp (to_z-of_z, c.ranges.left, c.ranges.right) at c.wrapping_rem.ensures in
    let test = c.if-right-eq0.false in
    let nonzero : b ≢ pos 0 = grind (arith, ints) in
    let fits : FitsSigned w32 r = search rules in
    let rest : IsRemainder a b r = subst (IsRemainder a b) (sym made) (int_div a b, divided a b nonzero) in
    subst (λ z. IsRemainder a b z × IsInRange z) (sym (to_z-of_z w32 r fits)) (rest, fits_in_range r fits)
