-- The newest item of each key is the same: none, where there is room now.
use Rattle.std.proofs.Common.{◌≡◌, ℕ, ◌+◌, ◌-◌, None, vec_len}
use Rattle.std.specs.List.{slice_index_or}
use Rattle.ada_interpreter.proofs.newest.make_room_at.Given as goal

abbrev pub invariant-keys : goal.invariant-keys
invariant-keys l = (n : ℕ) → slice_index_or l.newest.items n None ≡ slice_index_or l.initial.newest.items n None

abbrev pub decreases-keys : goal.decreases-keys
decreases-keys l = l.key + 1 - vec_len l.newest
