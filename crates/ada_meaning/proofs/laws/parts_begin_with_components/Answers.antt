-- By the lists of the types before it, and by what steps do to the parts of objects.
use Rattle.ada_meaning.proofs.Places as places
use Rattle.ada_meaning.proofs.PartsKept as kept
use Rattle.ada_meaning.proofs.laws.parts_begin_with_components.Goals as goal

pub returns-clause-itself : goal.returns-clause-itself
returns-clause-itself c = places.records_begin_themselves

pub returns-clause-components : goal.returns-clause-components
returns-clause-components c = places.parts_begin_with_components

pub returns-clause-counted : goal.returns-clause-counted
returns-clause-counted c = places.parts_are_counted

pub returns-clause-stay : goal.returns-clause-stay
returns-clause-stay c = kept.parts_stay_in_place
