use Rattle.std.proofs.Common.{length, ◌-◌, ◌≡◌, ◌+◌, drop}
use Rattle.ada_text.specs.Gap.{gap_len, next_start}
use Rattle.ada_text.specs.Place.{StandsIn}
use Rattle.ada_text.proofs.gap.past_gap.Given as goal

-- what the gap still takes from here on ends where the whole gap ends
abbrev pub invariant-loop-place : goal.invariant-loop-place
invariant-loop-place l = record {
  ends : l.place.at + gap_len (drop l.place.at l.source) ≡ next_start l.source l.fn.start.at;
  stands : StandsIn l.source l.place;
}

abbrev pub decreases-loop-place : goal.decreases-loop-place
decreases-loop-place l = length l.source - l.place.at
