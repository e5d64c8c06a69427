-- Decimal literals (2.4.1).
use Rattle.std.specs.Prelude.{ℕ, ◌+◌, ◌-◌, ◌*◌, ◌^◌, Bool, false, List, [], ◌∷◌, ◌&&◌, ◌||◌, ◌==◌, if◌then◌else◌, count_by}
use Rattle.ada_text.specs.Bytes.{is_digit, underscore}

-- Whether a text begins with a digit.
abbrev pub begins_with_digit : List ℕ → Bool
begins_with_digit [] = false
begins_with_digit (b ∷ bs) = is_digit b

-- How many bytes the number takes that a text begins with: digits, and underscores each of which a
-- digit follows.
unfoldable pub number_len : List ℕ → ℕ
number_len [] = 0
number_len (b ∷ bs) = if is_digit b || (b == underscore && begins_with_digit bs) then 1 + number_len bs else 0

-- How many digits a text has.
abbrev pub digit_count : List ℕ → ℕ
digit_count bs = count_by is_digit bs

-- What the digits stand for, underscores aside: each its value times the power of ten that its place has.
unfoldable pub value : List ℕ → ℕ
value [] = 0
value (b ∷ bs) = if is_digit b then (b - 48) * 10 ^ digit_count bs + value bs else value bs
