-- The step of a leaving holds for all types, and so for these.
use Rattle.std.proofs.Common.{arith}
use Rattle.std.proofs.lemmas.Grind.{common_steps}
use Rattle.ada_interpreter.proofs.process.Process.run_asking.Goals as goal

pub returns-in-Leaves : goal.returns-in-Leaves
returns-in-Leaves c = grind (arith, common_steps, c.leave.ensures c.args.loaded.now.program.now.types.items)
