use Rattle.std.proofs.Common.{◌≡◌, ◌+◌, drop, map}
use Rattle.ada_flow.specs.Flow.{all_give_back}
use Rattle.ada_flow.specs.Told.{tracks_in}
use Rattle.ada_flow.specs.Tracking.{numbers_from, tracked_numbers}
use Rattle.ada_program.specs.Form.{component_number}
use Rattle.ada_flow.proofs.tracks.Tracks.are_owned.Given as goal

-- what is left tells of all
abbrev pub invariant-loop-number : goal.invariant-loop-number
invariant-loop-number l =
    all_give_back (numbers_from (map component_number (drop l.number l.self.components.now)) (l.self.first + l.number)) l.holds ≡ all_give_back (tracked_numbers (tracks_in l.self)) l.holds
