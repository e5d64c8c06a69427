use Rattle.std.proofs.Common.{◌≡◌, ◌++◌, drop, map}
use Rattle.ada_flow.specs.Flow.{tracked_hold}
use Rattle.ada_program.specs.Form.{component_number}
use Rattle.ada_flow.proofs.tracks.Tracks.add_holds.Given as goal

-- what is added so far, and what is left to add, are all
abbrev pub invariant-loop : goal.invariant-loop
invariant-loop l =
    l.holds.items ++ map tracked_hold (map component_number (drop l.counter l.self.components.now))
    ≡ l.fn.holds.items ++ map tracked_hold (map component_number l.self.components.now)
