use Rattle.std.proofs.Common.{[], map}
use Rattle.ada_effects.specs.Found.{has_number}
use Rattle.ada_flow.specs.Flow.{broken_among, uses_in_actuals}
use Rattle.ada_flow.specs.Told.{broken, tracks_in}
use Rattle.ada_program.specs.Form.{actual_form}
use Rattle.ada_program.specs.ProgramForm.{type_form, variable_form}
use Rattle.ada_flow.proofs.Actuals.{found_next}
use Rattle.ada_flow.proofs.passing.broken_in_actuals.Goals as goal

pub loop-number-preserved : goal.loop-number-preserved
loop-number-preserved c =
    let types = map type_form c.args.types.now in
    let variables = map variable_form c.args.variables.now in
    let may = has_number c.args.freed.now in
    found_next types variables (tracks_in c.args.tracks) may c.args.holds.now c.args.actuals.now c.loop-number.number c.index-actuals-number.result (broken c.loop-number.found)
    (broken c.broken_in_actual-own.result) (broken c.leftmost-found.result)
    (broken_among (tracks_in c.args.tracks) c.args.holds.now (uses_in_actuals types variables may [] (map actual_form c.args.actuals.now)))
    c.loop-number-test.true c.index-actuals-number.is c.broken_in_actual-own.ensures c.leftmost-found.ensures c.loop-number.invariant
