use Rattle.std.proofs.Common.{◌≡◌, ◌⊎◌}
use Rattle.std.proofs.lemmas.Result.{err_from_is_err_and}
use Rattle.ada_program.specs.ProgramForm.{body_forms}
use Rattle.ada_meaning.specs.declared.event.Halt.TheVariants.{Memory}
use Rattle.ada_meaning.specs.Event.{event_of}
use Rattle.ada_meaning.specs.Named.{next}
use Rattle.ada_meaning.specs.Run.{Halts}
use Rattle.ada_interpreter.specs.Machine.{state_in, choices_of, Makes}
use Rattle.ada_pools.specs.View.{runner_of}
use Rattle.ada_serve.specs.Runner.{StepsOn}
use Rattle.ada_serve.proofs.Past.{same_state}
use Rattle.ada_serve.proofs.Steps.{PoolGrants, PoolPicks, steps_on, breaks_in_line, breaks_in_end, ends_in, ends_of}
use Rattle.ada_serve.proofs.serve.take_turn.Goals as goal

pub returns-in_err-write_event-in-Ok-clause-text : goal.returns-in_err-write_event-in-Ok-clause-text
returns-in_err-write_event-in-Ok-clause-text g c =
    let made : Makes PoolGrants PoolPicks (next c.args.program.now.types.items (body_forms c.args.program.now) (state_in c.args.machine.now)) (choices_of c.args.machine.now) (event_of c.in-Ok.event) (state_in c.step.new.self) (choices_of c.step.new.self) =
    rw c.requires.same at c.in-Ok.ensures.steps in
    let p = err_from_is_err_and c.from_residual.result c.from_residual.ensures.1 in
    rw (p.1) (record { reached = state_in c.step.new.self; turn = breaks_in_line c.args.program.now c.args.trace (state_in c.args.machine.now) (state_in c.step.new.self) (choices_of c.args.machine.now) (choices_of c.step.new.self) (event_of c.in-Ok.event) (g.W.ByteWriter.contents c.args.out.now) (g.W.ByteWriter.contents c.write_event.new.out) made c.in_err-write_event-in-Ok.ensures.text; forgets = same_state (state_in c.step.new.self) })

pub returns-in_ok-write_event-in-Ok-clause-text : goal.returns-in_ok-write_event-in-Ok-clause-text
returns-in_ok-write_event-in-Ok-clause-text g c =
    let made : Makes PoolGrants PoolPicks (next c.args.program.now.types.items (body_forms c.args.program.now) (state_in c.args.machine.now)) (choices_of c.args.machine.now) (event_of c.in-Ok.event) (state_in c.step.new.self) (choices_of c.step.new.self) =
    rw c.requires.same at c.in-Ok.ensures.steps in
    let step : StepsOn c.args.program.now c.args.trace (runner_of (choices_of c.args.machine.now)) (runner_of (choices_of c.forget_past.new.machine)) (state_in c.args.machine.now) (state_in c.step.new.self) (g.W.ByteWriter.contents c.args.out.now) (g.W.ByteWriter.contents c.write_event.new.out) =
    rw c.forget_past.ensures.choices (steps_on c.args.program.now c.args.trace (state_in c.args.machine.now) (state_in c.step.new.self) (choices_of c.args.machine.now) (choices_of c.step.new.self) (event_of c.in-Ok.event) (g.W.ByteWriter.contents c.args.out.now) (g.W.ByteWriter.contents c.write_event.new.out) made c.in_ok-write_event-in-Ok.ensures.text) in
    record { reached = state_in c.step.new.self; turn = step; forgets = c.forget_past.ensures.forgets }

pub returns-in_ok-finish-in-Err-clause-text : goal.returns-in_ok-finish-in-Err-clause-text
returns-in_ok-finish-in-Err-clause-text g c =
    let ends : (c.in-Err.halt ≡ Memory) ⊎ Halts c.args.program.now (state_in c.args.machine.now) c.in-Err.halt =
    rw c.requires.same at (ends_of c.args.machine.now c.in-Err.halt c.step.new.self (c.in-Err.ensures.ends c.requires.runs)) in
    record {
      reached = state_in c.step.new.self;
      turn = ends_in c.args.program.now (state_in c.args.machine.now) c.in-Err.halt c.in_ok-finish-in-Err.field-0 (g.W.ByteWriter.contents c.args.out.now) (g.W.ByteWriter.contents c.finish.new.out) ends c.in_ok-finish-in-Err.ensures.memory c.in_ok-finish-in-Err.ensures.text c.in_ok-finish-in-Err.ensures.status;
      forgets = same_state (state_in c.step.new.self);
    }

pub returns-in_err-finish-in-Err-clause-text : goal.returns-in_err-finish-in-Err-clause-text
returns-in_err-finish-in-Err-clause-text g c =
    let ends : (c.in-Err.halt ≡ Memory) ⊎ Halts c.args.program.now (state_in c.args.machine.now) c.in-Err.halt =
    rw c.requires.same at (ends_of c.args.machine.now c.in-Err.halt c.step.new.self (c.in-Err.ensures.ends c.requires.runs)) in
    let p = err_from_is_err_and c.from_residual-in_err-finish-in-Err.result c.from_residual-in_err-finish-in-Err.ensures.1 in
    rw (p.1) (record { reached = state_in c.step.new.self; turn = breaks_in_end c.args.program.now c.args.trace (runner_of (choices_of c.args.machine.now)) (state_in c.args.machine.now) c.in-Err.halt (g.W.ByteWriter.contents c.args.out.now) (g.W.ByteWriter.contents c.finish.new.out) ends c.in_err-finish-in-Err.ensures.text; forgets = same_state (state_in c.step.new.self) })
