use Rattle.std.proofs.Common.{arith}
use Rattle.ada_interpreter.specs.Process.{state_of}
use Rattle.ada_interpreter.proofs.CommonStepLemmas.{none_made}
use Rattle.ada_interpreter.proofs.process.Process.make_turns.Goals as goal

pub returns-in_default : goal.returns-in_default
returns-in_default c = record {
  steps = λ program runs. none_made program (state_of c.args.self.now) c.args.limit;
  left = omega arith;
}

pub returns-in_default-2-clause-steps : goal.returns-in_default-2-clause-steps
returns-in_default-2-clause-steps c program runs = none_made program (state_of c.args.self.now) c.args.limit
