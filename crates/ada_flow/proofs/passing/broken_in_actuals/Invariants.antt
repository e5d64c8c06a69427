use Rattle.std.proofs.Common.{◌≡◌, [], take, drop, map}
use Rattle.ada_effects.specs.Found.{has_number}
use Rattle.ada_flow.specs.Flow.{uses_in_actuals, leftmost, broken_among}
use Rattle.ada_flow.specs.Told.{broken, tracks_in}
use Rattle.ada_program.specs.Form.{actual_form}
use Rattle.ada_program.specs.ProgramForm.{type_form, variable_form}
use Rattle.ada_flow.proofs.passing.broken_in_actuals.Given as goal

-- what is found so far, and in what is left behind what is done so far, is what is found in all
abbrev pub invariant-loop-number : goal.invariant-loop-number
invariant-loop-number l =
    let types = map type_form l.types in
    let variables = map variable_form l.variables in
    let may = has_number l.freed in
    let done = map actual_form (take l.number l.actuals) in
    let left = map actual_form (drop l.number l.actuals) in
    leftmost (broken l.found) (broken_among (tracks_in l.tracks) l.holds (uses_in_actuals types variables may done left))
    ≡ broken_among (tracks_in l.tracks) l.holds (uses_in_actuals types variables may [] (map actual_form l.actuals))
