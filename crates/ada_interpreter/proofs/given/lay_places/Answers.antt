-- The other places are those of the variables behind the formal parameters.
use Rattle.std.proofs.Common.{◌≡◌, ℕ, length, map, drop, ap, ◌∙◌, arith}
use Rattle.ada_program.specs.Form.{actual_form}
use Rattle.ada_meaning.specs.Step.{given_values}
use Rattle.ada_interpreter.proofs.ActivationLemmas.{laid, count_laid}
use Rattle.ada_interpreter.proofs.given.lay_places.Goals as goal

pub returns : goal.returns
returns c =
    let values = given_values (map actual_form c.args.actuals.now) c.args.computed.now in
    let all : c.len.result ≡ length c.lay_values.new.places.items = grind arith in
    let base : c.len-base.result ≡ length c.args.places.now.items = grind arith in
    let count = count_laid c.args.places.now.items c.lay_values.new.places.items values c.len.result c.len-base.result c.in_ok-lay_values.ensures all base in
    let behind = c.variables_behind.ensures ∙ ap (λ (n : ℕ). drop n c.args.variables.now) count in
    laid c.args.places.now.items c.lay_values.new.places.items c.lay_blanks.new.places.items values c.args.variables.now c.variables_behind.result.now c.lay_blanks.result c.in_ok-lay_values.ensures behind c.lay_blanks.ensures
