-- What is left of a treatment keeps the order.
use Rattle.ada_finalized.proofs.Runs as runs
use Rattle.ada_finalized.proofs.laws.parts_go_in_order.Goals as goal

pub returns-clause-parts_first : goal.returns-clause-parts_first
returns-clause-parts_first c program input events last run = (runs.finalizations program input events last run).parts_first

pub returns-clause-wholes_first : goal.returns-clause-wholes_first
returns-clause-wholes_first c program input events last run = (runs.finalizations program input events last run).wholes_first

pub returns-clause-assigned_once : goal.returns-clause-assigned_once
returns-clause-assigned_once c program input events last run = (runs.finalizations program input events last run).assigned_once
