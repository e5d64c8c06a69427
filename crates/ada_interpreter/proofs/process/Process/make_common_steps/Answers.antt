use Rattle.std.proofs.Common.{◌≡◌, ◌-◌, ◌≤◌, ◌∙◌, sym, subst, false, arith}
use Rattle.ada_meaning.specs.State.{begins}
use Rattle.ada_interpreter.specs.CommonSteps.{GoesQuietly}
use Rattle.ada_interpreter.specs.Process.{state_of}
use Rattle.ada_interpreter.proofs.CommonStepLemmas.{none_made, more_steps, within_limit, lighter_behind}
use Rattle.ada_interpreter.proofs.process.Process.make_common_steps.Goals as goal

pub statements-init : goal.statements-init
statements-init c = record {
  steps = none_made c.args.program.now (state_of c.args.self.now) c.args.limit;
  left = omega arith;
}

pub steps-smaller : goal.steps-smaller
steps-smaller c =
    let starts : begins (state_of c.steps.self) ≡ false = sym c.begins.ensures ∙ c.steps-test.true in
    let made = rw c.if-not-branch.false at (c.in_ok-make_common_step.ensures.steps c.args.program.now) in
    let calls = rw c.if-not-branch.false at (c.in_ok-make_common_step.ensures.calls c.args.program.now) in
    lighter_behind c.steps_make_lighter.ensures.lighter c.args.program.now (state_of c.steps.self) (state_of c.make_common_step.new.self) made starts calls

pub steps-preserved : goal.steps-preserved
steps-preserved c =
    let starts : begins (state_of c.steps.self) ≡ false = sym c.begins.ensures ∙ c.steps-test.true in
    let made = rw c.if-not-branch.false at (c.in_ok-make_common_step.ensures.steps c.args.program.now) in
    record {
      steps = more_steps c.steps.invariant.steps made starts;
      left = c.steps.invariant.left;
    }

pub returns-then-not-branch-clause-steps : goal.returns-then-not-branch-clause-steps
returns-then-not-branch-clause-steps c =
    let same : c.make_common_step.new.self ≡ c.steps.self = rw c.if-not-branch.true at (c.in_ok-make_common_step.ensures.steps c.args.program.now) in
    rw same c.steps.invariant.steps

pub returns-in-None-clause-steps : goal.returns-in-None-clause-steps
returns-in-None-clause-steps c =
    let same : state_of c.begin_common_statements.new.self ≡ state_of c.steps.self = rw c.in-None.is at (c.in_ok-begin_common_statements.ensures c.args.program.now) in
    subst (GoesQuietly c.args.program.now (state_of c.args.self.now) (c.args.limit - c.statements.left)) (sym same) c.steps.invariant.steps

pub statements-smaller : goal.statements-smaller
statements-smaller c =
    let made = rw c.in-Some.is at (c.in_ok-begin_common_statements.ensures c.args.program.now) in
    made.0

pub statements-preserved : goal.statements-preserved
statements-preserved c =
    let made = rw c.in-Some.is at (c.in_ok-begin_common_statements.ensures c.args.program.now) in
    let further : c.in-Some.now ≤ c.statements.left = omega (arith, made.0) in
    record {
      steps = within_limit c.args.limit c.statements.left c.in-Some.now c.steps.invariant.steps made.1 c.steps.invariant.left further;
      left = omega (arith, further, c.steps.invariant.left);
    }
