use Rattle.ada_effects.proofs.Collected.{something_found}
use Rattle.ada_effects.proofs.found.Found.is_some.Goals as goal

pub returns-in-len1-up : goal.returns-in-len1-up
returns-in-len1-up c = something_found c.args.self.now.list.items (rw c.as_slice.ensures.value at c.in-len1-up.len_at_least)
