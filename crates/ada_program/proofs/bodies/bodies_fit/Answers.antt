-- Where one body does not fit, what is left does not.
use Rattle.std.proofs.Common.{take, sym, ◌∙◌}
use Rattle.ada_program.specs.Kept.{profiles_in, texts_in, types_in}
use Rattle.ada_program.proofs.Profiles.{stops_at}
use Rattle.ada_program.proofs.bodies.bodies_fit.Goals as goal

pub returns-then-not-body_fits : goal.returns-then-not-body_fits
returns-then-not-body_fits c =
    let ps = c.args.procedures.now in
    let wrong = stops_at (types_in c.args.types.now) (texts_in c.args.texts.now) (texts_in c.args.exceptions.now)
    (profiles_in (take c.loop-number.number ps)) ps c.loop-number.number c.index-procedures-number.result
    c.loop-number-test.true c.index-procedures-number.is (sym c.if-not-body_fits.ensures) in
    sym wrong ∙ c.loop-number.invariant
