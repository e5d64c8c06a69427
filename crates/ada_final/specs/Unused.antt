-- Which numbers wait for a list. No public clause cites this module.
use Rattle.std.specs.Prelude.{◌≡◌, ℕ, ◌≤◌, List, [], Some, is_none, length, slice_index_or, nat_eq, count_by, if◌then◌else◌}
use Rattle.ada_final.specs.Lists.{Numbered}

-- 1 where the number is one of the lists' and no list is entered there, else 0
abbrev pub vacancy : Numbered → ℕ → ℕ
vacancy lists number = if is_none (slice_index_or lists number (Some [])) then 1 else 0

-- the numbers that wait are those where no list is entered, each once, and there is room for every number
pub record IsUnused (lists : Numbered) (unused : List ℕ) (capacity : ℕ) : Type 0 where
  pub each_once : (number : ℕ) → count_by (nat_eq number) unused ≡ vacancy lists number
  pub counted : length unused ≡ count_by is_none lists
  pub room : length lists ≤ capacity
