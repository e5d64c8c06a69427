use Rattle.std.proofs.Common.{rules, ◌≡◌, ◌==◌, true, false, length, int_le, FitsSigned, w32, sym, ◌∙◌, arith}
use Rattle.std.proofs.lemmas.Grind.{common_steps}
use Rattle.std.proofs.lemmas.Int.{to_z-of_z}
use Rattle.ada_program.specs.Form.{expression_form}
use Rattle.ada_meaning.specs.Step as step
use Rattle.ada_interpreter.specs.Process.{state_of}
use Rattle.ada_interpreter.proofs.AtOnceLemmas.{ranged}
use Rattle.ada_interpreter.proofs.process.Process.counts_at_once.Goals as goal

pub returns : goal.returns
returns c program k runs =
    let low = c.in_ok-low.low in
    let high = c.in_ok-high.high in
    let low_fits : FitsSigned w32 low = search rules in
    let high_fits : FitsSigned w32 high = search rules in
    let up : int_le low high ≡ true = grind (arith, common_steps, c.if-low-high.false, low_fits, high_fits) in
    let some : (length c.args.statements.now == 0) ≡ false = sym c.is_empty.ensures ∙ c.if-is_empty.false in
    rw (to_z-of_z w32 low low_fits, to_z-of_z w32 high high_fits)
    (ranged program (step.at k (state_of c.args.self.now)) (expression_form c.args.first.now) (expression_form c.args.last.now) low high c.args.parameter.0 c.args.statements.now k runs c.in_ok-low.ensures.0 c.in_ok-low.ensures.1 c.in_ok-high.ensures.1 up some)
