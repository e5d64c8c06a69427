-- The path is that to the object, and the component behind it.
use Rattle.std.proofs.Common.{sym}
use Rattle.ada_interpreter.specs.Process.{frame_of, state_of, replaced}
use Rattle.ada_interpreter.proofs.ComponentLemmas.{frees_split}
use Rattle.ada_interpreter.proofs.process.Process.free.Goals as goal

pub returns-in_ok-component-in-Some : goal.returns-in_ok-component-in-Some
returns-in_ok-component-in-Some c =
    let parts = c.in-Some.ensures.cases in
    let split = frees_split c.args.loaded.now.program.now.types.items c.in-Some.before.now c.in-Some.last.now c.in_ok-component-in-Some.component c.args.access.0 c.args.path.now.root.0 (replaced (frame_of c.args.rest) (state_of c.args.self.now)) c.in_ok-component-in-Some.ensures in
    rw (sym c.as_slice.ensures.value, parts.0, split) c.find.ensures
