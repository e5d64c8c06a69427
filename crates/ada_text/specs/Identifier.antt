-- The form of identifiers and reserved words (2.3).
use Rattle.std.specs.Prelude.{ℕ, Bool, true, List, [], ◌∷◌, ◌&&◌, not, ◌==◌}
use Rattle.ada_text.specs.Bytes.{underscore}

-- No underscore is the last byte, and none stands before another.
unfoldable pub underscores_stand_alone : List ℕ → Bool
underscores_stand_alone [] = true
underscores_stand_alone (b ∷ []) = not (b == underscore)
underscores_stand_alone (b ∷ c ∷ bs) = not (b == underscore && c == underscore) && underscores_stand_alone (c ∷ bs)
