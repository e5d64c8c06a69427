use Rattle.std.proofs.Common.{◌≡◌, ◌+◌, drop, map}
use Rattle.ada_flow.specs.Told.{tracks_in}
use Rattle.ada_flow.specs.Tracking.{seen, seen_from}
use Rattle.ada_program.specs.Form.{component_number, path_form}
use Rattle.ada_flow.proofs.tracks.Tracks.seen.Given as goal

-- what is left tells of all
abbrev pub invariant-loop-number : goal.invariant-loop-number
invariant-loop-number l =
    seen_from (map component_number (drop l.number l.self.components.now)) (l.self.first + l.number) (path_form l.path) ≡ seen (tracks_in l.self) (path_form l.path)
