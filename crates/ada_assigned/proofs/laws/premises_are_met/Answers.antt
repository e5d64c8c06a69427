-- By a run of a program, each.
use Rattle.ada_assigned.proofs.Example.{initialize_assigns_inside}
use Rattle.ada_assigned.proofs.CalledExample.{initialize_calls_beside}
use Rattle.ada_assigned.proofs.OwnExample.{initialize_assigns_beside}
use Rattle.ada_assigned.proofs.laws.premises_are_met.Goals as goal

pub returns-clause-inside : goal.returns-clause-inside
returns-clause-inside c = initialize_assigns_inside

pub returns-clause-beside : goal.returns-clause-beside
returns-clause-beside c = initialize_assigns_beside

pub returns-clause-called : goal.returns-clause-called
returns-clause-called c = initialize_calls_beside
