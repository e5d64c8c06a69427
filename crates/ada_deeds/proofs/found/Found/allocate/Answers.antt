use Rattle.ada_deeds.proofs.Seeking.{finds_mark}
use Rattle.ada_deeds.proofs.found.Found.allocate.Goals as goal

-- the mark is set
pub returns-in-Others : goal.returns-in-Others
returns-in-Others c = finds_mark c.args.search c.args.self.now c.in-Others.is
