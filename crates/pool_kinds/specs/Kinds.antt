-- What the kinds of pools make of requests and of their open owners.
use Rattle.std.specs.Prelude.{ℕ, zero, suc, Bool, true, false, List, [], ◌∷◌, Option, Some, None, Result, Ok, Err, nat_lt, ◌==◌, length, if◌then◌else◌}
use Rattle.pool_kinds.specs.declared.kinds.Refused.{Refused}
use Rattle.pool_kinds.specs.declared.kinds.Refused.TheVariants.{Full, NotNewest}
use Rattle.pool_tiles.specs.Tiling.{Tile, closed}

-- a block that was found, or else the pool is full
abbrev pub or_full : Option (ℕ × List Tile) → Result (ℕ × List Tile) Refused
or_full None = Err Full
or_full (Some found) = Ok found

-- the least number from n on that is not in a list in increasing order
abbrev pub least_from : ℕ → List ℕ → ℕ
least_from n [] = n
least_from n (number ∷ numbers) = if number == n then least_from (suc n) numbers else n

-- a number at its place in a list in increasing order
abbrev pub inserted : ℕ → List ℕ → List ℕ
inserted n [] = n ∷ []
inserted n (number ∷ numbers) = if nat_lt n number then n ∷ number ∷ numbers else number ∷ inserted n numbers

-- the list without the number
abbrev pub without : ℕ → List ℕ → List ℕ
without n [] = []
without n (number ∷ numbers) = if number == n then numbers else number ∷ without n numbers

-- One more subpool gets the least number from 1 that is not open, unless 1,000 are open; numbers are kept in increasing order.
abbrev pub opened_subpool : List ℕ → Option (ℕ × List ℕ)
opened_subpool owners =
    if nat_lt (length owners) 1000 then Some (least_from 1 owners, inserted (least_from 1 owners) owners) else None

-- the numbers whose flag is set, where the first flag is that of n
abbrev pub open_from : ℕ → List Bool → List ℕ
open_from n [] = []
open_from n (true ∷ flags) = n ∷ open_from (suc n) flags
open_from n (false ∷ flags) = open_from (suc n) flags

-- the marks' numbers, the newest first: n, n - 1 and so on to 1
abbrev pub down_from : ℕ → List ℕ
down_from zero = []
down_from (suc n) = suc n ∷ down_from n

-- One more mark gets the next number, unless 10 are open.
abbrev pub opened_mark : List ℕ → Option (ℕ × List ℕ)
opened_mark owners = if nat_lt (length owners) 10 then Some (suc (length owners), suc (length owners) ∷ owners) else None

-- an answer for the newest owner, and a refusal for any other
abbrev pub for_newest : List ℕ → ℕ → Result (ℕ × List Tile) Refused → Result (ℕ × List Tile) Refused
for_newest [] owner answer = Err NotNewest
for_newest (newest ∷ older) owner answer = if newest == owner then answer else Err NotNewest

-- the newest owner's blocks become holes, and it is open no more; nothing where another is the newest
abbrev pub closed_newest : List ℕ → ℕ → List Tile → Option (List Tile × List ℕ)
closed_newest [] owner ts = None
closed_newest (newest ∷ older) owner ts = if newest == owner then Some (closed owner ts, older) else None
