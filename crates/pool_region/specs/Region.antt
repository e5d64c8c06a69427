-- What a region's words are, and what they become when a part that was lent to be written comes back.
use Rattle.std.specs.Prelude.{ℕ, ◌+◌, List, ◌++◌, take, drop, slice_range}
use Rattle.std.specs.Borrow.{Fml, MutBor, Array, Lends, u64}
use Rattle.std.specs.List.{refill}
use Rattle.pool_region.specs.contracts.region.Region.{the_row}

-- the words, with the n from the place on replaced by new
abbrev pub with_part : List ℕ → ℕ → ℕ → List ℕ → List ℕ
with_part words place n new = take place words ++ (new ++ drop (place + n) words)

-- the region ends with the last words behind the part in the place of its own; a slice has as many words as it had
abbrev pub LendsPart : MutBor (List ℕ) → ℕ → ℕ → MutBor (List ℕ) → Fml
LendsPart region place n part =
    Lends the_row (Array u64 0) region part (λ words. with_part region.now place n (refill n (slice_range region.now place (place + n)) words))
