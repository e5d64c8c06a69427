use Rattle.ada_interpreter.proofs.process.Process.make_common_step.Goals as goal

pub returns-in-Running-clause-calls : goal.returns-in-Running-clause-calls
returns-in-Running-clause-calls c program = c.go_on_commonly.ensures.calls program c.in-Running.is
