use Rattle.std.proofs.Common.{◌≡◌, ◌-◌, ◌<◌, ap, ◌∙◌, subst, arith}
use Rattle.ada_program.specs.Form.{stmts_form}
use Rattle.ada_meaning.specs.Frame as frame
use Rattle.ada_meaning.specs.Named.{State}
use Rattle.ada_meaning.specs.Step as step
use Rattle.ada_interpreter.specs.CommonSteps.{GoesQuietly}
use Rattle.ada_interpreter.specs.Process.{state_of, pushed}
use Rattle.ada_interpreter.proofs.AtOnceLemmas.{put_on_again}
use Rattle.ada_interpreter.proofs.CommonStepLemmas.{within_limit}
use Rattle.ada_interpreter.proofs.process.Process.do_next.Goals as goal

pub returns-then-run : goal.returns-then-run
returns-then-run c program runs =
    let s = state_of c.args.self.now in
    let f = frame.Does (stmts_form c.args.statements.now) in
    let running = ap (λ (t : State). t.mode) c.pass.ensures ∙ runs in
    let from : pushed f (state_of c.pass.new.self) ≡ s = ap (pushed f) c.pass.ensures ∙ put_on_again s f (step.older s.control) c.requires.top in
    let run = subst (λ (t : State). GoesQuietly program t (c.args.limit - c.in_ok-run.run'.left) (state_of c.run_through.new.self)) from (c.in_ok-run.ensures.steps program running) in
    let less : c.in_ok-run.run'.left < c.args.limit = omega (arith, c.requires.statements, c.in_ok-run.ensures.counted c.if-run.true) in
    let turns = c.in_ok-make_turns.ensures.steps program (c.in_ok-run.ensures.mode ∙ running) in
    (omega (arith, less, c.in_ok-make_turns.ensures.left), within_limit c.args.limit c.in_ok-run.run'.left c.in_ok-make_turns.field-0 run turns c.in_ok-run.ensures.left c.in_ok-make_turns.ensures.left)
