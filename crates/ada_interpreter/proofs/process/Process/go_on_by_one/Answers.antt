-- The steps of statements and of what is assigned hold for all types and bodies, and so for these.
use Rattle.std.proofs.Common.{arith}
use Rattle.std.proofs.lemmas.Grind.{common_steps}
use Rattle.ada_interpreter.proofs.process.Process.go_on_by_one.Goals as goal

pub returns-in-Does-clause-steps : goal.returns-in-Does-clause-steps
returns-in-Does-clause-steps c types bodies = grind (arith, common_steps, c.pass_done.ensures types bodies)

pub returns-in-Evaluates-clause-steps : goal.returns-in-Evaluates-clause-steps
returns-in-Evaluates-clause-steps c types bodies = grind (arith, common_steps, c.evaluate_next.ensures types)
