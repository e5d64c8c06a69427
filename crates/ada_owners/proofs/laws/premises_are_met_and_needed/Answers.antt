-- By two states.
use Rattle.ada_owners.proofs.Example as example
use Rattle.ada_owners.proofs.laws.premises_are_met_and_needed.Goals as goal

pub returns-clause-met : goal.returns-clause-met
returns-clause-met c = example.links_fit

pub returns-clause-parted : goal.returns-clause-parted
returns-clause-parted c = example.parted_links_fit

pub returns-clause-owners : goal.returns-clause-owners
returns-clause-owners c = example.two_owners_dangle

pub returns-clause-borrowers : goal.returns-clause-borrowers
returns-clause-borrowers c = example.borrower_dangles
