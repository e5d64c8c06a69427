use Rattle.std.proofs.Common.{◌≡◌, Some, refl, ap, sym, ◌∙◌, subst}
use Rattle.ada_program.specs.Form.{expression_form, stmts_form}
use Rattle.ada_meaning.specs.declared.state.Mode.TheVariants.{Exiting}
use Rattle.ada_meaning.specs.Frame as frame
use Rattle.ada_meaning.specs.Step as step
use Rattle.ada_meaning.specs.Named.{named}
use Rattle.ada_interpreter.specs.CommonSteps.{GoesOn}
use Rattle.ada_interpreter.specs.Process.{state_of, replaced}
use Rattle.ada_interpreter.proofs.AtOnceLemmas.{exited, done_within}
use Rattle.ada_interpreter.proofs.CommonStepLemmas.{on_then}
use Rattle.ada_interpreter.proofs.process.Process.exit_at_once.Goals as goal

pub returns-in_ok-replace : goal.returns-in_ok-replace
returns-in_ok-replace c program runs =
    let s = replaced (frame.Does (stmts_form c.args.rest.now)) (state_of c.args.self.now) in
    let e = expression_form c.in-Some.condition.now in
    let known = rw c.in-Some-truth_at_once.is at c.truth_at_once.ensures in
    let last : state_of c.jump.new.self ≡ step.jumping Exiting s = c.jump.ensures ∙ ap (step.jumping Exiting) c.in_ok-replace.ensures in
    rw c.in-Some.is
    (subst (GoesOn program (step.exit_next named (Some e) s)) (sym last)
    (exited program s e c.in-Some-truth_at_once.leaves runs known.0 known.1 (step.jumping Exiting s) (rw c.if-leaves.true refl)))

pub returns-in_ok-go_behind_statement : goal.returns-in_ok-go_behind_statement
returns-in_ok-go_behind_statement c program runs =
    let old = state_of c.args.self.now in
    let fs = stmts_form c.args.rest.now in
    let s = replaced (frame.Does fs) old in
    let e = expression_form c.in-Some.condition.now in
    let known = rw c.in-Some-truth_at_once.is at c.truth_at_once.ensures in
    rw (c.in-Some.is, c.in_ok-go_behind_statement.ensures)
    (on_then (exited program s e c.in-Some-truth_at_once.leaves runs known.0 known.1 s (rw c.if-leaves.false refl)) (done_within program fs (step.older old.control) old runs))
