use Rattle.std.proofs.Common.{◌≡◌, ◌+◌, ◌++◌, drop, map}
use Rattle.ada_flow.specs.Told.{tracks_in, variable_number}
use Rattle.ada_flow.specs.Tracking.{numbers_from, tracked_numbers}
use Rattle.ada_program.specs.Form.{component_number}
use Rattle.ada_flow.proofs.tracks.Tracks.add_numbers.Given as goal

-- what is added so far, and what is left to add, are all
abbrev pub invariant-loop-number : goal.invariant-loop-number
invariant-loop-number l =
    map variable_number l.owed.items ++ numbers_from (map component_number (drop l.number l.self.components.now)) (l.self.first + l.number)
    ≡ map variable_number l.fn.owed.items ++ tracked_numbers (tracks_in l.self)
