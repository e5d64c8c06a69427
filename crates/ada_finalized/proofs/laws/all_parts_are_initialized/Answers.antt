-- By what is called of a treatment, and by the order of what is left.
use Rattle.ada_finalized.proofs.Runs as runs
use Rattle.ada_finalized.proofs.Standing as standing
use Rattle.ada_finalized.proofs.laws.all_parts_are_initialized.Goals as goal

pub returns-clause-inside_begun : goal.returns-clause-inside_begun
returns-clause-inside_begun c program input events last run = (runs.finalizations program input events last run).inside_begun

pub returns-clause-all_stand : goal.returns-clause-all_stand
returns-clause-all_stand c = standing.all_stand

pub returns-clause-nothing_treated : goal.returns-clause-nothing_treated
returns-clause-nothing_treated c = standing.nothing_treated
