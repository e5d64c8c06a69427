-- Places of a source, and their lines and columns as people count them.
use Rattle.std.specs.Prelude.{◌≡◌, ℕ, ◌+◌, ◌≤◌, List, length, take, count_by}
use Rattle.std.specs.List.{suffix_len}
use Rattle.ada_text.specs.declared.place.Place.{Place}
use Rattle.ada_text.specs.Bytes.{ends_line, stays_on_line}

-- The line behind these bytes: 1, and one more for each line feed among them.
unfoldable pub line_after : List ℕ → ℕ
line_after before = 1 + count_by ends_line before

-- The column behind these bytes: 1, and one more for each byte since the last line feed.
unfoldable pub column_after : List ℕ → ℕ
column_after before = 1 + suffix_len stays_on_line before

-- The place stands in the source; its line and column are those behind the bytes before it.
pub record StandsIn (source : List ℕ) (place : Place) : Type 0 where
  pub within : place.at ≤ length source
  pub line : place.line ≡ line_after (take place.at source)
  pub column : place.column ≡ column_after (take place.at source)
