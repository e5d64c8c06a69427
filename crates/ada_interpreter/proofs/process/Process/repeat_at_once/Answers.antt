use Rattle.std.proofs.Common.{◌≡◌, ◌==◌, ◌∷◌, List, None, Some, true, false, length, refl, sym, ◌∙◌, subst, arith}
use Rattle.std.proofs.lemmas.Grind.{common_steps}
use Rattle.ada_program.specs.Form.{expression_form, stmts_form}
use Rattle.ada_meaning.specs.declared.state.Value.{Value}
use Rattle.ada_meaning.specs.Frame.{Frame}
use Rattle.ada_meaning.specs.Frame as frame
use Rattle.ada_meaning.specs.Step as step
use Rattle.ada_interpreter.specs.CommonSteps.{ComesTo}
use Rattle.ada_interpreter.specs.Process.{state_of, passed}
use Rattle.ada_interpreter.proofs.AtOnceLemmas.{turned, begins_turn, comes_to, older_control}
use Rattle.ada_interpreter.proofs.CommonStepLemmas.{goes_once}
use Rattle.ada_interpreter.proofs.process.Process.repeat_at_once.Goals as goal

pub returns-in_default-clause-steps : goal.returns-in_default-clause-steps
returns-in_default-clause-steps c program runs =
    let s = state_of c.args.self.now in
    let k = step.older s.control in
    let fs = stmts_form c.args.statements.now in
    let first : s.control ≡ frame.Repeats None fs ∷ k = grind (arith, common_steps, c.requires, c.in_default.is) in
    let some : (length c.args.statements.now == 0) ≡ false = sym c.is_empty.ensures ∙ c.if-is_empty.false in (
      grind (arith, common_steps, some),
      subst (λ (k' : List (Frame Value)). ComesTo program s (step.at (frame.Does fs ∷ k') s)) (sym first)
          (comes_to program s (frame.Repeats None fs) k runs first refl refl _ (goes_once (sym (begins_turn None c.args.statements.now (passed s) some)))),
    )

pub returns-in-Some-true-clause-steps : goal.returns-in-Some-true-clause-steps
returns-in-Some-true-clause-steps c program runs =
    let s = state_of c.args.self.now in
    let k = step.older s.control in
    let e = expression_form c.in-Some.condition.now in
    let fs = stmts_form c.args.statements.now in
    let first : s.control ≡ frame.Repeats (Some e) fs ∷ k = rw c.in-Some.is at c.requires in
    let known = rw (c.in-Some-true.is, c.in-Some-true.field-0-test) at c.truth_at_once.ensures in
    let some : (length c.args.statements.now == 0) ≡ false = sym c.is_empty.ensures ∙ c.if-is_empty.false in (
      grind (arith, common_steps, some),
      subst (λ (k' : List (Frame Value)). ComesTo program s (step.at (frame.Does fs ∷ k') s)) (sym first)
          (comes_to program s (frame.Repeats (Some e) fs) k runs first refl refl _
          (turned program (passed s) e true runs known.0 known.1 fs _ (begins_turn (Some e) c.args.statements.now (passed s) some))),
    )

pub returns-in-Some-false-clause-steps : goal.returns-in-Some-false-clause-steps
returns-in-Some-false-clause-steps c program runs =
    let s = state_of c.args.self.now in
    let k = step.older s.control in
    let e = expression_form c.in-Some.condition.now in
    let fs = stmts_form c.args.statements.now in
    let first : s.control ≡ frame.Repeats (Some e) fs ∷ k = rw c.in-Some.is at c.requires in
    let known = rw (c.in-Some-false.is, c.in-Some-false.field-0-test) at c.truth_at_once.ensures in
    rw (c.shorten.ensures, older_control c.args.self.now.frames)
    (comes_to program s (frame.Repeats (Some e) fs) k runs first refl refl (passed s)
    (turned program (passed s) e false runs known.0 known.1 fs (passed s) refl))
