use Rattle.std.proofs.Common.{◌≡◌, drop, map}
use Rattle.ada_flow.specs.Flow.{touched_by_all}
use Rattle.ada_program.specs.Form.{declaration_form}
use Rattle.ada_program.specs.ProgramForm.{variable_form}
use Rattle.ada_flow.proofs.touching.touch_declared.Given as goal
use Rattle.ada_flow.specs.Told.{tracks_in}

-- what is left touches the rest
abbrev pub invariant-declarations : goal.invariant-declarations
invariant-declarations l =
    touched_by_all (map variable_form l.variables) (tracks_in l.tracks) (map declaration_form (drop l.declaration-index l.declarations)) l.known.holds.items
    ≡ touched_by_all (map variable_form l.variables) (tracks_in l.tracks) (map declaration_form l.declarations) l.fn.known.holds.items
