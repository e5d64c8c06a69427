use Rattle.ada_interpreter.specs.Machine.{state_in, program_of}
use Rattle.ada_interpreter.proofs.CommonStepLemmas.{none_made}
use Rattle.ada_interpreter.proofs.machine.Machine.make_common_steps.Goals as goal

pub returns-then-is_some-clause-steps : goal.returns-then-is_some-clause-steps
returns-then-is_some-clause-steps g c = none_made (program_of c.args.self.now) (state_in c.args.self.now) c.args.limit
