-- What is known behind a call, and where one raises an exception.

use Rattle.std.proofs.Common.{◌≡◌, ℕ, zero, suc, ◌+◌, ◌≤◌, arith, true, false, List, [], ◌∷◌, length, drop, Option, refl, sym, ap, ◌∙◌, add-one}
use Rattle.std.specs.List.{list_any, slice_index_or}
use Rattle.ada_program.specs.declared.program.Exception.{Exception}
use Rattle.ada_flow.specs.Flow.{Holds, Keeping, first_kept, others_kept}
use Rattle.ada_flow.specs.Told.{Noted, unwanted, wanted, also_noted, is_wanted}
use Rattle.ada_flow.proofs.Noted.{nothing_noted}

-- where a list has an exception, one of all exceptions is in it
pub something_raised : (es : List Exception) → 1 ≤ length es → true ≡ list_any (λ e. true) es
something_raised [] h = absurd (omega arith)
something_raised (e ∷ es) h = refl

-- whether the formal parameter of a number is kept
pub kept_next : (kept : Keeping) (n : ℕ) → first_kept (drop n kept) ≡ slice_index_or kept n false
kept_next [] zero = refl
kept_next [] (suc n) = refl
kept_next (b ∷ kept) zero = refl
kept_next (b ∷ kept) (suc n) = kept_next kept n

-- and which of those behind it are
others_behind : (kept : Keeping) (n : ℕ) → others_kept (drop n kept) ≡ drop (suc n) kept
others_behind [] zero = refl
others_behind [] (suc n) = refl
others_behind (b ∷ kept) zero = refl
others_behind (b ∷ kept) (suc n) = others_behind kept n

pub others_next : (kept : Keeping) (n : ℕ) → others_kept (drop n kept) ≡ drop (n + 1) kept
others_next kept n = others_behind kept n ∙ ap (λ (m : ℕ). drop m kept) (sym (add-one n))

pub ruleset unkept_steps = (kept_next, others_next)

-- where nothing is wanted, nothing is noted
pub unwanted_stays : (n : Noted) (raising : Option Holds) → is_wanted n ≡ false → also_noted n raising ≡ n
unwanted_stays unwanted raising e = refl
unwanted_stays (wanted before) raising e = cc

pub ruleset raising_steps = (unwanted_stays, nothing_noted)
