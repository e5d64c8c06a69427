use Rattle.std.proofs.Common.{◌≡◌, ℕ, ◌^◌, ◌≤◌, true, w32, w64, ℤ, pos, neg_ℤ, ◌-ℤ◌, to_z, of_z, drop, ap, sym, subst, Some, None, arith}
use Rattle.std.proofs.lemmas.Int.{ints}
use Rattle.std.specs.Str.Parse.{starts_with_minus}
use Rattle.ada_input.specs.Input.{magnitude_of}
use Rattle.ada_input.proofs.NumberLemmas.{number_of_minus, behind_first}
use Rattle.ada_input.proofs.number.number.Goals as goal

pub returns-in_err-value : goal.returns-in_err-value
returns-in_err-value c =
    let sign : starts_with_minus c.args.word.now ≡ true = sym c.if-is_negative.ensures.sign in
    let none : magnitude_of (2 ^ 31) (drop 1 c.args.word.now) ≡ None = subst (λ ds. magnitude_of (2 ^ 31) ds ≡ None) (behind_first c.args.word.now) (sym c.in_err-value.ensures.value) in
    rw (number_of_minus c.args.word.now sign, none) c.from_residual.ensures

pub returns-in_ok-value : goal.returns-in_ok-value
returns-in_ok-value c =
    let sign : starts_with_minus c.args.word.now ≡ true = sym c.if-is_negative.ensures.sign in
    let some : magnitude_of (2 ^ 31) (drop 1 c.args.word.now) ≡ Some c.in_ok-value.value = subst (λ ds. magnitude_of (2 ^ 31) ds ≡ Some c.in_ok-value.value) (behind_first c.args.word.now) (sym c.in_ok-value.ensures.value) in
    rw (number_of_minus c.args.word.now sign, some) (ap Some (cast c.from.result c.in_ok-value.value c.in_ok-value.ensures.within c.from.ensures))
  where
    cast : (z : ℤ) (v : ℕ) → v ≤ 2 ^ 31 → z ≡ pos v → to_z w32 (of_z w32 (to_z w64 (of_z w64 (pos 0 -ℤ to_z w64 (of_z w64 z))))) ≡ neg_ℤ (pos v)
    cast z v l e = omega (arith, ints)
