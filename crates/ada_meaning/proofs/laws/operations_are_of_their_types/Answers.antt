-- By the numbers of the types.
use Rattle.ada_meaning.proofs.Places as places
use Rattle.ada_meaning.proofs.laws.operations_are_of_their_types.Goals as goal

pub returns-clause-alone : goal.returns-clause-alone
returns-clause-alone c = places.numbers_are_alone

pub returns-clause-own : goal.returns-clause-own
returns-clause-own c = places.types_have_their_operations
