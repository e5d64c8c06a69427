-- The rank of a part rises by one where its value comes to exist, and by one where that is finalized.
use Rattle.ada_finalized.proofs.Runs as runs
use Rattle.ada_finalized.proofs.laws.values_are_finalized_once.Goals as goal

pub returns-clause-born_once : goal.returns-clause-born_once
returns-clause-born_once c program input events last run = (runs.finalizations program input events last run).born_once

pub returns-clause-finalized_once : goal.returns-clause-finalized_once
returns-clause-finalized_once c = runs.finalized_once

pub returns-clause-born_before : goal.returns-clause-born_before
returns-clause-born_before c program input events last run = (runs.finalizations program input events last run).born_before

pub returns-clause-is_born : goal.returns-clause-is_born
returns-clause-is_born c program input events last run = (runs.finalizations program input events last run).is_born

pub returns-clause-finalized_by_back : goal.returns-clause-finalized_by_back
returns-clause-finalized_by_back c program input events last run = (runs.finalizations program input events last run).finalized_by_back

pub returns-clause-nothing_after_back : goal.returns-clause-nothing_after_back
returns-clause-nothing_after_back c program input events last run = (runs.finalizations program input events last run).nothing_after_back
