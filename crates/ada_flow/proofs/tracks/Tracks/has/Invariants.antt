use Rattle.std.proofs.Common.{◌≡◌, drop, map}
use Rattle.ada_flow.specs.Told.{tracks_in}
use Rattle.ada_flow.specs.Tracking.{is_one_of, is_tracked}
use Rattle.ada_program.specs.Form.{component_number, path_form}
use Rattle.ada_flow.proofs.tracks.Tracks.has.Given as goal

-- what is left tells of all
abbrev pub invariant-components : goal.invariant-components
invariant-components l =
    is_one_of (map component_number (drop l.component-index l.self.components.now)) (path_form l.path) ≡ is_tracked (tracks_in l.self) (path_form l.path)
