-- What stands between tokens: separators (2.2) and comments (2.7).
use Rattle.std.specs.Prelude.{ℕ, ◌+◌, Bool, false, List, [], ◌∷◌, if◌then◌else◌, ◌&&◌, ◌==◌, drop}
use Rattle.ada_text.specs.Bytes.{is_separator, hyphen, ends_line, begins_with}

-- Two hyphens begin a comment.
abbrev pub begins_comment : List ℕ → Bool
begins_comment [] = false
begins_comment (b ∷ bs) = b == hyphen && begins_with hyphen bs

unfoldable mutual
  -- How many bytes of separators and comments a text begins with.
  pub gap_len : List ℕ → ℕ
  gap_len [] = 0
  gap_len (b ∷ bs) =
      if begins_comment (b ∷ bs) then 1 + comment_len bs
      else (if is_separator b then 1 + gap_len bs
      else 0)

  -- How far the gap goes on from inside a comment, which runs to the line's end, whichever bytes it holds.
  pub comment_len : List ℕ → ℕ
  comment_len [] = 0
  comment_len (b ∷ bs) = if ends_line b then 1 + gap_len bs else 1 + comment_len bs

-- Where the next token would begin: past the separators and comments that stand at place i.
abbrev pub next_start : List ℕ → ℕ → ℕ
next_start source i = i + gap_len (drop i source)
