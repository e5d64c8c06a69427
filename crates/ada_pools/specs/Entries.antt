-- Entries by number.

use Rattle.std.specs.Prelude.{ℕ, ◌==◌, List, Option, None, if◌then◌else◌}
use Rattle.std.specs.List.{slice_index_or}

-- The entry of a number in a list: none, behind its end.
abbrev pub entries_of : {X : Type 0} → List (Option X) → ℕ → Option X
entries_of entries number = slice_index_or entries number None

-- The entries once that of a number is another.
abbrev pub updated : {X : Type 0} → (ℕ → Option X) → ℕ → Option X → ℕ → Option X
updated entries number entry other = if other == number then entry else entries other
