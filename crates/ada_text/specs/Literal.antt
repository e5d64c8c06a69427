-- String literals (2.6).
use Rattle.std.specs.Prelude.{ℕ, ◌+◌, List, [], ◌∷◌, Option, Some, None, ◌==◌, if◌then◌else◌}
use Rattle.ada_text.specs.Bytes.{quote, is_graphic}

-- a byte in front of a string's text, which takes n bytes more
abbrev pub behind : ℕ → ℕ → Option (List ℕ × ℕ) → Option (List ℕ × ℕ)
behind b n None = None
behind b n (Some found) = Some (b ∷ found.0, n + found.1)

-- The text of a string literal from behind its opening quote, and how many bytes it takes with its
-- closing quote:
-- a doubled quote is one of the text, a single one closes. None where another byte or the end comes first.
unfoldable pub literal : List ℕ → Option (List ℕ × ℕ)
literal [] = None
literal (b ∷ []) = if b == quote then Some ([], 1) else None
literal (b ∷ c ∷ bs) =
    if b == quote then (if c == quote then behind quote 2 (literal bs) else Some ([], 1))
    else (if is_graphic b then behind b 1 (literal (c ∷ bs)) else None)
