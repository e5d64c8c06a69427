-- By their one steps.
use Rattle.ada_meaning.proofs.References as references
use Rattle.ada_meaning.proofs.laws.records_are_referred_to.Goals as goal

pub returns-clause-records : goal.returns-clause-records
returns-clause-records c = references.records_are_referred_to

pub returns-clause-components : goal.returns-clause-components
returns-clause-components c = references.components_are_opened

pub returns-clause-shared : goal.returns-clause-shared
returns-clause-shared c = references.parameters_share_records

pub returns-clause-goes_on : goal.returns-clause-goes_on
returns-clause-goes_on c = references.paths_go_on_there

pub returns-clause-found : goal.returns-clause-found
returns-clause-found c = references.components_are_found_there

pub returns-clause-wholes : goal.returns-clause-wholes
returns-clause-wholes c = references.records_begin_there
