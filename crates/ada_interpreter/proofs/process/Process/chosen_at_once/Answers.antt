use Rattle.std.proofs.Common.{true, false, refl}
use Rattle.ada_program.specs.Form.{expression_form, stmts_form, branches_form}
use Rattle.ada_meaning.specs.Frame as frame
use Rattle.ada_meaning.specs.Step as step
use Rattle.ada_interpreter.specs.Process.{state_of, pushed}
use Rattle.ada_interpreter.proofs.AtOnceLemmas.{chosen, others_chosen}
use Rattle.ada_interpreter.proofs.CommonStepLemmas.{goes_once}
use Rattle.ada_interpreter.proofs.process.Process.chosen_at_once.Goals as goal

pub branches-init : goal.branches-init
branches-init c program k last runs on = on

pub returns-then-branch : goal.returns-then-branch
returns-then-branch c program k runs =
    let t = step.at k (state_of c.args.self.now) in
    let first = c.in-Some.first.now in
    let known = rw c.if-branch.true at c.in_ok-truth_at_once.ensures in
    rw c.as_slice.ensures.value
    (c.branches.invariant program k _ runs
    (rw c.in-Some.ensures.cases.0
    (chosen program t (expression_form first.condition) true runs known.0 known.1 (stmts_form first.statements.items) (branches_form c.in-Some.rest.now (stmts_form c.args.otherwise.now)) (pushed (frame.Does (stmts_form first.statements.items)) t)
    (goes_once refl))))

pub branches-preserved : goal.branches-preserved
branches-preserved c program k last runs on =
    let t = step.at k (state_of c.args.self.now) in
    let first = c.in-Some.first.now in
    let known = rw c.if-branch.false at c.in_ok-truth_at_once.ensures in
    c.branches.invariant program k last runs
    (rw c.in-Some.ensures.cases.0
    (chosen program t (expression_form first.condition) false runs known.0 known.1 (stmts_form first.statements.items) (branches_form c.in-Some.rest.now (stmts_form c.args.otherwise.now)) last on))

pub returns : goal.returns
returns c program k runs =
    c.branches.invariant program k _ runs
    (others_chosen program (step.at k (state_of c.args.self.now)) c.branches.left.now (stmts_form c.args.otherwise.now) c.in_default.ensures.cases)
