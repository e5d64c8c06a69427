use Rattle.std.proofs.Common.{◌≡◌, ℕ, ◌<◌, false}
use Rattle.ada_program.specs.Kept.{types_in}
use Rattle.ada_program.specs.WellFormed.{finalization_of}
use Rattle.ada_rounds.specs.FirstRound.{is_asked}
use Rattle.ada_rounds.proofs.first.some_is_asked.Given as goal

-- none of the types so far
abbrev pub invariant-types : goal.invariant-types
invariant-types l = (t : ℕ) → t < l.number → is_asked (finalization_of (types_in l.types) t) ≡ false
