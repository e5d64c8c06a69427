-- How tokens lie in a source: in order, apart, with separators and comments between them.
use Rattle.std.specs.Prelude.{◌≡◌, ℕ, ◌-◌, ◌<◌, ◌≤◌, true, List, [], ◌∷◌, ◌++◌, length, drop, take}
use Rattle.std.specs.List.{AllPass}
use Rattle.ada_text.specs.Bytes.{hyphen, line_feed, is_separator, stays_on_line}
use Rattle.ada_text.specs.Token.{Lexeme}

-- Separators (2.2) and comments (2.7), with these bytes behind them. A comment is two hyphens and
-- the bytes up to the line's end; the source's end may take its place.
pub data IsGap (behind : List ℕ) : List ℕ → Type 0 where
  empty : IsGap behind []
  separated : (b : ℕ) (more : List ℕ) → is_separator b ≡ true → IsGap behind more → IsGap behind (b ∷ more)
  commented : (line more : List ℕ) → AllPass stays_on_line line → IsGap behind more → IsGap behind (hyphen ∷ hyphen ∷ (line ++ line_feed ∷ more))
  ended : (line : List ℕ) → AllPass stays_on_line line → behind ≡ [] → IsGap behind (hyphen ∷ hyphen ∷ line)

-- From place i on the source is a gap, a token of one byte or more, a gap, a token .. and at last a gap.
abbrev pub Lie : List ℕ → ℕ → List Lexeme → Type 0
Lie source i [] = IsGap [] (drop i source)
Lie source i (t ∷ ts) =
    (i ≤ t.from) × (t.from < t.to) × (t.to ≤ length source)
    × IsGap (drop t.from source) (take (t.from - i) (drop i source)) × Lie source t.to ts
