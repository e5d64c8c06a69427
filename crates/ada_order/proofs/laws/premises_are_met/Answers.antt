-- By three programs and their runs.
use Rattle.ada_order.proofs.Example as example
use Rattle.ada_order.proofs.Calling as calling
use Rattle.ada_order.proofs.Pooling as pooling
use Rattle.ada_order.proofs.laws.premises_are_met.Goals as goal

pub returns-clause-run : goal.returns-clause-run
returns-clause-run c = (example.program, example.form, example.finishes)

pub returns-clause-step : goal.returns-clause-step
returns-clause-step c = (example.program, example.form, example.leaves_inner)

pub returns-clause-call : goal.returns-clause-call
returns-clause-call c = (calling.program, calling.form, calling.bodies, calling.finishes)

pub returns-clause-call_step : goal.returns-clause-call_step
returns-clause-call_step c = (calling.program, calling.form, calling.bodies, calling.leaves_body)

pub returns-clause-pools : goal.returns-clause-pools
returns-clause-pools c = (pooling.program, pooling.form, pooling.opened)

pub returns-clause-pools_left : goal.returns-clause-pools_left
returns-clause-pools_left c = (pooling.program, pooling.form, pooling.finishes)
