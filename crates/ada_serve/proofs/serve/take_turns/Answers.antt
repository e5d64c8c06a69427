use Rattle.std.proofs.Common.{◌≡◌, ◌-◌, ◌<◌, ◌∙◌, sym, refl, inr, true, false, Ok, None, Some, arith}
use Rattle.std.proofs.lemmas.Result.{err_from_is_err_and}
use Rattle.ada_meaning.specs.State.{begins}
use Rattle.ada_interpreter.specs.CommonSteps.{GoesQuietly}
use Rattle.ada_interpreter.specs.Machine.{state_in, choices_of}
use Rattle.ada_pools.specs.View.{runner_of}
use Rattle.ada_serve.specs.Runner.{TurnsOn}
use Rattle.ada_serve.proofs.Writing.{idle, works_both, writes_after, writes_fault}
use Rattle.ada_serve.proofs.Steps.{Reaches, steps_lighten, turn_lightens, reaches_first, reaches_step, reaches_statement, reaches_quietly, reaches_fault, step_broken, statement_broken, reaches_end, reaches_limit}
use Rattle.ada_serve.proofs.serve.take_turns.Goals as goal

pub statements-init : goal.statements-init
statements-init g c = record {
  reaches = reaches_first c.args.program.now c.args.options.now.trace (state_in c.args.machine.now).input c.args.options.now.steps (runner_of (choices_of c.args.machine.now)) (runner_of (choices_of c.args.machine.now)) (state_in c.args.machine.now) (g.W.ByteWriter.contents c.args.out.now) c.requires.first refl;
  calls = idle g.W.ByteWriter.writes c.args.out.now;
  runs = c.requires.runs;
  same = c.requires.same;
}

pub returns-in_err-status-clause-text : goal.returns-in_err-status-clause-text
returns-in_err-status-clause-text g c =
    let starts : begins (state_in c.steps.machine) ≡ false = sym (c.begins.ensures.runs c.steps.invariant.runs) ∙ c.steps-test.true in
    let p = err_from_is_err_and c.from_residual.result c.from_residual.ensures.1 in
    rw (p.1) (inr (step_broken c.past_objects_do_not_matter.ensures c.states_go_on.ensures c.args.program.now (steps_lighten c.operations_grow_fewer.ensures.lighter c.args.program.now c.requires.operations) c.args.options.now.trace (state_in c.args.machine.now).input c.args.options.now.steps (runner_of (choices_of c.args.machine.now)) c.statements.left (runner_of (choices_of c.steps.machine)) (state_in c.steps.machine) (g.W.ByteWriter.contents c.args.out.now) (g.W.ByteWriter.contents c.steps.out) (g.W.ByteWriter.contents c.take_turn.new.out) c.steps.invariant.reaches starts c.in_err-status.ensures.text.turn))

pub returns-in_err-status-clause-writer : goal.returns-in_err-status-clause-writer
returns-in_err-status-clause-writer g c =
    let p = err_from_is_err_and c.from_residual.result c.from_residual.ensures.1 in
    rw (p.1, p.2) (writes_fault g.W.ByteWriter.writes c.args.out.now c.steps.out c.take_turn.new.out c.in_err-status.field-0.0 c.steps.invariant.calls c.in_err-status.ensures.writer)

pub returns-in-Some-clause-text : goal.returns-in-Some-clause-text
returns-in-Some-clause-text g c =
    let ends : TurnsOn c.args.program.now c.args.options.now.trace c.steps.machine c.take_turn.new.machine (g.W.ByteWriter.contents c.steps.out) (g.W.ByteWriter.contents c.take_turn.new.out) (Ok (Some c.in-Some.status)) =
    rw c.in-Some.is at c.in_ok-status.ensures.text in
    reaches_end c.past_objects_do_not_matter.ensures c.args.program.now c.args.options.now.trace (state_in c.args.machine.now).input c.args.options.now.steps (runner_of (choices_of c.args.machine.now)) c.statements.left (runner_of (choices_of c.steps.machine)) (state_in c.steps.machine) c.in-Some.status (g.W.ByteWriter.contents c.args.out.now) (g.W.ByteWriter.contents c.steps.out) (g.W.ByteWriter.contents c.take_turn.new.out) c.steps.invariant.reaches ends.turn

pub returns-in-Some-clause-writer : goal.returns-in-Some-clause-writer
returns-in-Some-clause-writer g c = works_both g.W.ByteWriter.writes c.args.out.now c.steps.out c.take_turn.new.out c.steps.invariant.calls c.in_ok-status.ensures.writer

pub steps-preserved : goal.steps-preserved
steps-preserved g c =
    let starts : begins (state_in c.steps.machine) ≡ false = sym (c.begins.ensures.runs c.steps.invariant.runs) ∙ c.steps-test.true in
    let turn : TurnsOn c.args.program.now c.args.options.now.trace c.steps.machine c.take_turn.new.machine (g.W.ByteWriter.contents c.steps.out) (g.W.ByteWriter.contents c.take_turn.new.out) (Ok None) =
    rw c.in_default.is at c.in_ok-status.ensures.text in
    record {
      reaches = reaches_step c.past_objects_do_not_matter.ensures c.args.program.now c.args.options.now.trace (state_in c.args.machine.now).input c.args.options.now.steps (runner_of (choices_of c.args.machine.now)) c.statements.left c.steps.machine c.take_turn.new.machine (g.W.ByteWriter.contents c.args.out.now) (g.W.ByteWriter.contents c.steps.out) (g.W.ByteWriter.contents c.take_turn.new.out) c.steps.invariant.reaches starts turn;
      calls = works_both g.W.ByteWriter.writes c.args.out.now c.steps.out c.take_turn.new.out c.steps.invariant.calls c.in_ok-status.ensures.writer;
      runs = c.in_ok-status.ensures.runs c.in_default.is;
      same = c.take_turn.ensures.same;
    }

pub steps-smaller : goal.steps-smaller
steps-smaller g c =
    let starts : begins (state_in c.steps.machine) ≡ false = sym (c.begins.ensures.runs c.steps.invariant.runs) ∙ c.steps-test.true in
    let turn : TurnsOn c.args.program.now c.args.options.now.trace c.steps.machine c.take_turn.new.machine (g.W.ByteWriter.contents c.steps.out) (g.W.ByteWriter.contents c.take_turn.new.out) (Ok None) =
    rw c.in_default.is at c.in_ok-status.ensures.text in
    turn_lightens c.past_objects_weigh_nothing.ensures c.args.program.now (steps_lighten c.operations_grow_fewer.ensures.lighter c.args.program.now c.requires.operations) c.args.options.now.trace c.steps.machine c.take_turn.new.machine (g.W.ByteWriter.contents c.steps.out) (g.W.ByteWriter.contents c.take_turn.new.out) starts turn

pub returns-then-left-eq0-clause-text : goal.returns-then-left-eq0-clause-text
returns-then-left-eq0-clause-text g c =
    let starts : begins (state_in c.steps.machine) ≡ true = sym (c.begins.ensures.runs c.steps.invariant.runs) ∙ c.steps-test.false in
    reaches_limit c.args.program.now c.args.options.now.trace (state_in c.args.machine.now).input c.args.options.now.steps (runner_of (choices_of c.args.machine.now)) c.statements.left (runner_of (choices_of c.steps.machine)) (state_in c.steps.machine) c.stop.result (g.W.ByteWriter.contents c.args.out.now) (g.W.ByteWriter.contents c.steps.out) (g.W.ByteWriter.contents c.stop.new.out) c.steps.invariant.reaches starts c.if-left-eq0.true c.stop.ensures.text c.stop.ensures.status

pub returns-then-left-eq0-clause-writer : goal.returns-then-left-eq0-clause-writer
returns-then-left-eq0-clause-writer g c = writes_after g.W.ByteWriter.writes c.args.out.now c.steps.out c.stop.new.out c.stop.result c.steps.invariant.calls c.stop.ensures.writer

pub returns-in_err-status-2-clause-text : goal.returns-in_err-status-2-clause-text
returns-in_err-status-2-clause-text g c =
    let starts : begins (state_in c.steps.machine) ≡ true = sym (c.begins.ensures.runs c.steps.invariant.runs) ∙ c.steps-test.false in
    let some : 0 < c.statements.left = omega arith in
    let p = err_from_is_err_and c.from_residual-in_err-status-2.result c.from_residual-in_err-status-2.ensures.1 in
    rw (p.1) (inr (statement_broken c.past_objects_do_not_matter.ensures c.states_go_on.ensures c.args.program.now (steps_lighten c.operations_grow_fewer.ensures.lighter c.args.program.now c.requires.operations) c.args.options.now.trace (state_in c.args.machine.now).input c.args.options.now.steps (runner_of (choices_of c.args.machine.now)) c.statements.left (runner_of (choices_of c.steps.machine)) (state_in c.steps.machine) (g.W.ByteWriter.contents c.args.out.now) (g.W.ByteWriter.contents c.steps.out) (g.W.ByteWriter.contents c.take_turn-in-statements.new.out) c.steps.invariant.reaches starts some c.in_err-status-2.ensures.text.turn))

pub returns-in_err-status-2-clause-writer : goal.returns-in_err-status-2-clause-writer
returns-in_err-status-2-clause-writer g c =
    let p = err_from_is_err_and c.from_residual-in_err-status-2.result c.from_residual-in_err-status-2.ensures.1 in
    rw (p.1, p.2) (writes_fault g.W.ByteWriter.writes c.args.out.now c.steps.out c.take_turn-in-statements.new.out c.in_err-status-2.field-0.0 c.steps.invariant.calls c.in_err-status-2.ensures.writer)

pub returns-in-Some-2-clause-text : goal.returns-in-Some-2-clause-text
returns-in-Some-2-clause-text g c =
    let ends : TurnsOn c.args.program.now c.args.options.now.trace c.steps.machine c.take_turn-in-statements.new.machine (g.W.ByteWriter.contents c.steps.out) (g.W.ByteWriter.contents c.take_turn-in-statements.new.out) (Ok (Some c.in-Some-2.status)) =
    rw c.in-Some-2.is at c.in_ok-status-2.ensures.text in
    reaches_end c.past_objects_do_not_matter.ensures c.args.program.now c.args.options.now.trace (state_in c.args.machine.now).input c.args.options.now.steps (runner_of (choices_of c.args.machine.now)) c.statements.left (runner_of (choices_of c.steps.machine)) (state_in c.steps.machine) c.in-Some-2.status (g.W.ByteWriter.contents c.args.out.now) (g.W.ByteWriter.contents c.steps.out) (g.W.ByteWriter.contents c.take_turn-in-statements.new.out) c.steps.invariant.reaches ends.turn

pub returns-in-Some-2-clause-writer : goal.returns-in-Some-2-clause-writer
returns-in-Some-2-clause-writer g c = works_both g.W.ByteWriter.writes c.args.out.now c.steps.out c.take_turn-in-statements.new.out c.steps.invariant.calls c.in_ok-status-2.ensures.writer

pub statements-preserved : goal.statements-preserved
statements-preserved g c =
    let starts : begins (state_in c.steps.machine) ≡ true = sym (c.begins.ensures.runs c.steps.invariant.runs) ∙ c.steps-test.false in
    let some : 0 < c.statements.left = omega arith in
    let turn : TurnsOn c.args.program.now c.args.options.now.trace c.steps.machine c.take_turn-in-statements.new.machine (g.W.ByteWriter.contents c.steps.out) (g.W.ByteWriter.contents c.take_turn-in-statements.new.out) (Ok None) =
    rw c.in_default-2.is at c.in_ok-status-2.ensures.text in
    let begun : Reaches c.args.program.now c.args.options.now.trace (state_in c.args.machine.now).input c.args.options.now.steps (runner_of (choices_of c.args.machine.now)) (c.statements.left - 1) (runner_of (choices_of c.take_turn-in-statements.new.machine)) (state_in c.take_turn-in-statements.new.machine) (g.W.ByteWriter.contents c.args.out.now) (g.W.ByteWriter.contents c.take_turn-in-statements.new.out) =
    reaches_statement c.past_objects_do_not_matter.ensures c.args.program.now c.args.options.now.trace (state_in c.args.machine.now).input c.args.options.now.steps (runner_of (choices_of c.args.machine.now)) c.statements.left c.steps.machine c.take_turn-in-statements.new.machine (g.W.ByteWriter.contents c.args.out.now) (g.W.ByteWriter.contents c.steps.out) (g.W.ByteWriter.contents c.take_turn-in-statements.new.out) c.steps.invariant.reaches starts some turn in
    let quiet : GoesQuietly c.args.program.now (state_in c.take_turn-in-statements.new.machine) (c.statements.left - 1 - c.in_ok-left.left) (state_in c.make_common_steps.new.self) =
    rw c.take_turn-in-statements.ensures.same at c.in_ok-left.ensures.steps in
    let asked : choices_of c.make_common_steps.new.self ≡ choices_of c.take_turn-in-statements.new.machine = c.make_common_steps.ensures.choices in
    record {
      reaches =
          rw asked (reaches_quietly c.past_objects_do_not_matter.ensures c.args.program.now c.args.options.now.trace (state_in c.args.machine.now).input c.args.options.now.steps (runner_of (choices_of c.args.machine.now)) (c.statements.left - 1) c.in_ok-left.left (runner_of (choices_of c.take_turn-in-statements.new.machine)) (state_in c.take_turn-in-statements.new.machine) (state_in c.make_common_steps.new.self) (g.W.ByteWriter.contents c.args.out.now) (g.W.ByteWriter.contents c.take_turn-in-statements.new.out) begun quiet c.in_ok-left.ensures.left);
      calls = works_both g.W.ByteWriter.writes c.args.out.now c.steps.out c.take_turn-in-statements.new.out c.steps.invariant.calls c.in_ok-status-2.ensures.writer;
      runs = c.in_ok-left.ensures.halted ∙ c.in_ok-status-2.ensures.runs c.in_default-2.is;
      same = c.make_common_steps.ensures.program ∙ c.take_turn-in-statements.ensures.same;
    }

pub returns-in_err-left-clause-text : goal.returns-in_err-left-clause-text
returns-in_err-left-clause-text g c =
    let starts : begins (state_in c.steps.machine) ≡ true = sym (c.begins.ensures.runs c.steps.invariant.runs) ∙ c.steps-test.false in
    let some : 0 < c.statements.left = omega arith in
    let turn : TurnsOn c.args.program.now c.args.options.now.trace c.steps.machine c.take_turn-in-statements.new.machine (g.W.ByteWriter.contents c.steps.out) (g.W.ByteWriter.contents c.take_turn-in-statements.new.out) (Ok None) =
    rw c.in_default-2.is at c.in_ok-status-2.ensures.text in
    let begun : Reaches c.args.program.now c.args.options.now.trace (state_in c.args.machine.now).input c.args.options.now.steps (runner_of (choices_of c.args.machine.now)) (c.statements.left - 1) (runner_of (choices_of c.take_turn-in-statements.new.machine)) (state_in c.take_turn-in-statements.new.machine) (g.W.ByteWriter.contents c.args.out.now) (g.W.ByteWriter.contents c.take_turn-in-statements.new.out) =
    reaches_statement c.past_objects_do_not_matter.ensures c.args.program.now c.args.options.now.trace (state_in c.args.machine.now).input c.args.options.now.steps (runner_of (choices_of c.args.machine.now)) c.statements.left c.steps.machine c.take_turn-in-statements.new.machine (g.W.ByteWriter.contents c.args.out.now) (g.W.ByteWriter.contents c.steps.out) (g.W.ByteWriter.contents c.take_turn-in-statements.new.out) c.steps.invariant.reaches starts some turn in
    let p = err_from_is_err_and c.from_residual-in_err-left.result c.from_residual-in_err-left.ensures.1 in
    rw (p.1) (inr (reaches_fault c.states_go_on.ensures c.args.program.now (steps_lighten c.operations_grow_fewer.ensures.lighter c.args.program.now c.requires.operations) c.args.options.now.trace (state_in c.args.machine.now).input c.args.options.now.steps (runner_of (choices_of c.args.machine.now)) (c.statements.left - 1) (runner_of (choices_of c.take_turn-in-statements.new.machine)) (state_in c.take_turn-in-statements.new.machine) (g.W.ByteWriter.contents c.args.out.now) (g.W.ByteWriter.contents c.take_turn-in-statements.new.out) begun))

pub returns-in_err-left-clause-writer : goal.returns-in_err-left-clause-writer
returns-in_err-left-clause-writer g c =
    let p = err_from_is_err_and c.from_residual-in_err-left.result c.from_residual-in_err-left.ensures.1 in
    rw (p.1, p.2) (works_both g.W.ByteWriter.writes c.args.out.now c.steps.out c.take_turn-in-statements.new.out c.steps.invariant.calls c.in_ok-status-2.ensures.writer)
