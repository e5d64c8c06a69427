use Rattle.std.proofs.Common.{◌≡◌, drop, map}
use Rattle.ada_flow.specs.Flow.{opened_by_actuals}
use Rattle.ada_program.specs.Form.{actual_form}
use Rattle.ada_program.specs.ProgramForm.{variable_form}
use Rattle.ada_flow.proofs.touching.open_actuals.Given as goal
use Rattle.ada_flow.specs.Told.{tracks_in}

-- what is left opens the rest
abbrev pub invariant-actuals : goal.invariant-actuals
invariant-actuals l =
    opened_by_actuals (map variable_form l.variables) (tracks_in l.tracks) (map actual_form (drop l.actual-index l.actuals)) l.known.holds.items
    ≡ opened_by_actuals (map variable_form l.variables) (tracks_in l.tracks) (map actual_form l.actuals) l.fn.known.holds.items
