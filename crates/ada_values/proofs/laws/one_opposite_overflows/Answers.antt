-- By the bounds of the range.
use Rattle.std.proofs.Common.{arith, ◌≡◌, ◌^◌, ℤ, pos, neg_ℤ, ◌<ℤ◌, sym, subst}
use Rattle.std.proofs.lemmas.Int.{ints, by_lt_z}
use Rattle.ada_values.specs.Operators.{first_integer, IsInRange}
use Rattle.ada_values.proofs.laws.one_opposite_overflows.Goals as goal

opposite_in_range : (a : ℤ) → IsInRange a → first_integer <ℤ a → IsInRange (neg_ℤ a)
opposite_in_range a h k = let high = h.1 in (omega (arith, ints), omega (arith, ints))

only : (a z : ℤ) → IsInRange a → z ≡ neg_ℤ a → ¬ IsInRange z → a ≡ first_integer
only a z h e n = let low = h.0 in by_lt_z first_integer a
    (λ k. absurd (n (subst IsInRange (sym e) (opposite_in_range a h k))))
    (λ k. omega (arith, ints))

outside : ¬ IsInRange (pos (2 ^ 31))
outside h = let high = h.1 in omega (arith, ints)

pub returns-clause-minus : goal.returns-clause-minus
returns-clause-minus c = λ a h. (λ x. only a x.0 h x.1 x.2, λ e. (pos (2 ^ 31), omega (arith, ints), outside))

pub returns-clause-plus : goal.returns-clause-plus
returns-clause-plus c = λ a h x. x.2 tt
