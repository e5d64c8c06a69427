-- By the signs of the operands.
use Rattle.std.proofs.Common.{◌≡◌, inl, inr, sym, subst, ℤ, pos, neg_ℤ}
use Rattle.ada_values.specs.Operators.{first_integer, IsInRange, IsQuotient}
use Rattle.ada_values.proofs.Division.{quotient_is, quotient_range, first_overflows}
use Rattle.ada_values.proofs.laws.one_division_overflows.Goals as goal

abbrev Outside : ℤ → ℤ → Type 0
Outside a b = (q : ℤ) × IsQuotient a b q × ¬ IsInRange q

only : (a b : ℤ) → IsInRange a → Outside a b → (a ≡ first_integer) × (b ≡ neg_ℤ (pos 1))
only a b f h = elim (quotient_range a b f) [
  | inl e ↦ e
  | inr r ↦ absurd (h.2 (subst IsInRange (sym (quotient_is a b h.0 h.1)) r))
]

found : (a b : ℤ) → (a ≡ first_integer) × (b ≡ neg_ℤ (pos 1)) → Outside a b
found a b e = subst (λ x. Outside x b) (sym e.0) (subst (λ y. Outside first_integer y) (sym e.1) first_overflows)

pub returns-clause-divide : goal.returns-clause-divide
returns-clause-divide c = λ a b f g. (only a b f, found a b)
