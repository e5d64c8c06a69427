-- An item's number is that of the items below it; and so it is of masters in any run of any program.
use Rattle.ada_sound.proofs.Headline as headline
use Rattle.ada_sound.proofs.laws.numbers_fall.Goals as goal

pub returns-clause-items : goal.returns-clause-items
returns-clause-items c = headline.items_fall

pub returns-clause-masters : goal.returns-clause-masters
returns-clause-masters c = headline.masters_fall
