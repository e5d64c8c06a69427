-- By their one steps.
use Rattle.ada_meaning.proofs.Freeing as freeing
use Rattle.ada_meaning.proofs.laws.frees_are_of_whole_objects.Goals as goal

pub returns-clause-once : goal.returns-clause-once
returns-clause-once c = freeing.frees_once

pub returns-clause-pool : goal.returns-clause-pool
returns-clause-pool c = freeing.frees_to_its_pool

pub returns-clause-finalizes : goal.returns-clause-finalizes
returns-clause-finalizes c = freeing.frees_finalize
