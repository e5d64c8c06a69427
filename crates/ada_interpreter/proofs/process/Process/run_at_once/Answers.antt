use Rattle.std.proofs.Common.{◌-◌, ◌<◌, ◌∷◌, refl, ◌∙◌, subst, arith}
use Rattle.ada_program.specs.Form.{stmt_form, stmts_form}
use Rattle.ada_meaning.specs.Frame as frame
use Rattle.ada_meaning.specs.Step as step
use Rattle.ada_interpreter.specs.CommonSteps.{GoesQuietly}
use Rattle.ada_interpreter.specs.Process.{state_of}
use Rattle.ada_interpreter.proofs.AtOnceLemmas.{statement_done}
use Rattle.ada_interpreter.proofs.CommonStepLemmas.{none_made}
use Rattle.ada_interpreter.proofs.process.Process.run_at_once.Goals as goal

pub statements-init : goal.statements-init
statements-init c = record {
  steps = λ program k runs. none_made program (step.at (frame.Does (stmts_form c.args.statements.now) ∷ k) (state_of c.args.self.now)) c.args.limit;
  left = omega arith;
  counted = refl;
  unchanged = λ same. refl;
  rest = λ same. refl;
  frames = refl;
  mode = refl;
}

pub statements-preserved : goal.statements-preserved
statements-preserved c =
    let i = c.statements.invariant in
    let some : 0 < c.statements.left = omega (arith, c.if-left-eq0.false) in
    record {
      steps = λ program k runs.
          let running = i.mode ∙ runs in
          let so_far = subst (λ xs. GoesQuietly program (step.at (frame.Does (stmts_form c.args.statements.now) ∷ k) (state_of c.args.self.now)) (c.args.limit - c.statements.left) (step.at (frame.Does (stmts_form xs) ∷ k) (state_of c.statements.self))) c.in-Some.ensures.cases.0 (i.steps program k runs) in
          statement_done program (step.at (frame.Does (stmts_form c.args.statements.now) ∷ k) (state_of c.args.self.now)) (state_of c.statements.self) (step.at (frame.Does (stmts_form c.in-Some.behind.now) ∷ k) (state_of c.do_at_once.new.self)) (stmt_form c.in-Some.first.now) (stmts_form c.in-Some.behind.now) k c.args.limit c.statements.left running so_far
          (c.if-not-do_at_once.ensures.done program (stmts_form c.in-Some.behind.now) k running) some i.left;
      left = omega (arith, i.left);
      counted = omega (arith, some, i.counted, c.in-Some.ensures.cases.1);
      unchanged = λ same. absurd (omega (arith, same, some, i.left));
      rest = λ same. absurd (omega (arith, same, some, i.left));
      frames = c.if-not-do_at_once.ensures.frames ∙ i.frames;
      mode = c.if-not-do_at_once.ensures.mode ∙ i.mode;
    }
