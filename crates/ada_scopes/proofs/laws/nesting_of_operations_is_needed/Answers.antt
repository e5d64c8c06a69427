-- By examples.
use Rattle.ada_scopes.proofs.RecursionExample as recursion
use Rattle.ada_scopes.proofs.ShortExample as short
use Rattle.ada_scopes.proofs.laws.nesting_of_operations_is_needed.Goals as goal

pub returns-clause-collection : goal.returns-clause-collection
returns-clause-collection c = (recursion.program, recursion.well_formed, recursion.nests, recursion.opened_twice)

pub returns-clause-record_object : goal.returns-clause-record_object
returns-clause-record_object c = (short.program, short.well_formed, short.nests, short.operations_nest, short.not_outlived)
