-- The remainder, or one divisor further where it has the other sign.
use Rattle.std.proofs.Common.{rules, IsTrue, ◌≡◌, ◌↔◌, ◌+ℤ◌, sym, subst, int_div, int_rem, FitsSigned, w32}
use Rattle.std.proofs.lemmas.Int.{to_z-of_z}
use Rattle.ada_values.specs.Operators.{IsRemainder, HaveOppositeSigns}
use Rattle.ada_values.proofs.Division.{divided, moved_modulus, same_modulus, fits_in_range, in_range_fits, small_in_range}
use Rattle.ada_values.proofs.operators.modulus_by_nonzero.Goals as goal

pub returns-then-have_opposite_signs : goal.returns-then-have_opposite_signs
returns-then-have_opposite_signs c =
    let a = c.args.left in
    let b = c.args.right in
    let r = c.wrapping_rem-remainder.result in
    let made : r ≡ int_rem a b = simp (to_z-of_z, c.ranges.left, c.ranges.right) at c.wrapping_rem-remainder.ensures in
    let rest : IsRemainder a b r = subst (IsRemainder a b) (sym made) (int_div a b, divided a b c.requires) in
    let fits : FitsSigned w32 r = search rules in
    let said : IsTrue c.have_opposite_signs.result ↔ HaveOppositeSigns r b = simp (to_z-of_z, fits, c.ranges.right) at c.have_opposite_signs.ensures in
    let is = moved_modulus a b r rest (said.0 c.if-have_opposite_signs.true) in
    let sum_fits = in_range_fits (r +ℤ b) (small_in_range b (r +ℤ b) (fits_in_range b c.ranges.right) is.1.small) in
    simp (to_z-of_z, fits, c.ranges.right, sum_fits) is

pub returns-else-have_opposite_signs : goal.returns-else-have_opposite_signs
returns-else-have_opposite_signs c =
    let a = c.args.left in
    let b = c.args.right in
    let r = c.wrapping_rem-remainder.result in
    let made : r ≡ int_rem a b = simp (to_z-of_z, c.ranges.left, c.ranges.right) at c.wrapping_rem-remainder.ensures in
    let rest : IsRemainder a b r = subst (IsRemainder a b) (sym made) (int_div a b, divided a b c.requires) in
    let fits : FitsSigned w32 r = search rules in
    let said : IsTrue c.have_opposite_signs.result ↔ HaveOppositeSigns r b = simp (to_z-of_z, fits, c.ranges.right) at c.have_opposite_signs.ensures in
    let opposite : ¬ HaveOppositeSigns r b = λ h. absurd (cc (said.1 h)) in
    simp (to_z-of_z, fits) (same_modulus a b r rest opposite)
