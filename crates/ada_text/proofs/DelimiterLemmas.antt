-- A delimiter is told by two bytes.
use Rattle.std.proofs.Common.{◌≡◌, ℕ, ◌<◌, List, [], ◌∷◌, length, get_or, refl, arith}
use Rattle.ada_text.specs.Delimiter.{delimiter_in_front}

pub by_two_bytes : (s : List ℕ) → 0 < length s → delimiter_in_front (get_or s 0 0 ∷ get_or s 1 0 ∷ []) ≡ delimiter_in_front s
unfolding delimiter_in_front
by_two_bytes [] h = absurd (omega arith)
by_two_bytes (b ∷ []) h = refl
by_two_bytes (b ∷ c ∷ bs) h = refl
