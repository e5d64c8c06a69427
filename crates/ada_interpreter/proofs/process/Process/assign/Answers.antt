-- The path is that to the object, and the component behind it.
use Rattle.std.proofs.Common.{sym}
use Rattle.ada_program.specs.Form.{right_form}
use Rattle.ada_interpreter.specs.Process.{frame_of, state_of, replaced}
use Rattle.ada_interpreter.proofs.ComponentLemmas.{assign_split}
use Rattle.ada_interpreter.proofs.process.Process.assign.Goals as goal

pub returns-in_ok-component-in-Some : goal.returns-in_ok-component-in-Some
returns-in_ok-component-in-Some c =
    let parts = c.in-Some.ensures.cases in
    let split = assign_split c.in-Some.before.now c.in-Some.last.now c.in_ok-component-in-Some.component c.args.target.now.root.0 (right_form c.args.value.now) (replaced (frame_of c.args.rest) (state_of c.args.self.now)) c.in_ok-component-in-Some.ensures in
    rw (sym c.as_slice.ensures.value, parts.0, split) c.find.ensures
