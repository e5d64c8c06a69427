-- Where the words of an input stand.

use Rattle.std.specs.Prelude.{◌≡◌, ℕ, ◌+◌, ◌<◌, ◌⊎◌, true, List, [], ◌∷◌, ◌++◌, length}
use Rattle.ada_input.specs.Input.{is_separator, Word}
use Rattle.ada_input.specs.Written.{HasNoSeparator, EndsWord}

-- The last of these bytes is a separator.
pub record EndsWithSeparator (bytes : List ℕ) : Type 0 where
  pub front : List ℕ
  pub last : ℕ
  pub split : bytes ≡ front ++ last ∷ []
  pub separator : is_separator last ≡ true

-- A word begins behind these bytes: there are none, or a separator stands last.
abbrev pub BeginsWord : List ℕ → Type 0
BeginsWord bytes = (bytes ≡ []) ⊎ EndsWithSeparator bytes

-- The word stands at its place in these bytes, whole: separators, or the ends of the bytes, stand around it, and none in it.
pub record StandsIn (bytes : List ℕ) (word : Word) : Type 0 where
  pub before : List ℕ
  pub behind : List ℕ
  pub split : bytes ≡ before ++ (word.bytes ++ behind)
  pub place : word.place ≡ length before + 1
  pub some : 0 < length word.bytes
  pub whole : HasNoSeparator word.bytes
  pub begins : BeginsWord before
  pub ends : EndsWord behind
