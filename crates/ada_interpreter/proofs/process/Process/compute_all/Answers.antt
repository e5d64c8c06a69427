-- The last of the actual parameters that are left comes in front of the others.
use Rattle.std.proofs.Common.{arith, ◌∙◌, ap}
use Rattle.ada_meaning.specs.declared.state.Value.{Value}
use Rattle.ada_meaning.specs.Frame.{Frame}
use Rattle.ada_interpreter.specs.Process.{state_of, pushed}
use Rattle.ada_interpreter.proofs.CallLemmas.{in_front_more}
use Rattle.ada_interpreter.proofs.process.Process.compute_all.Goals as goal

pub actuals-preserved : goal.actuals-preserved
actuals-preserved c =
    let is = c.in_ok-push.ensures ∙ ap (λ (f : Frame Value). pushed f (state_of c.actuals.self)) c.evaluating.ensures in
    record {
      left = omega arith;
      in_front = in_front_more c.args.actuals.now c.actuals.left c.index-actuals-left.result (state_of c.actuals.self) (state_of c.push.new.self) _ (omega arith) (omega arith) c.index-actuals-left.is is c.actuals.invariant.in_front;
    }
