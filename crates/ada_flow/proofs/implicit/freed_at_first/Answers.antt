use Rattle.ada_flow.proofs.implicit.freed_at_first.Goals as goal

pub returns-in-None : goal.returns-in-None
returns-in-None c = rw (c.in-None.is) c.freed_at_start.ensures

pub returns-in-Some : goal.returns-in-Some
returns-in-Some c = rw (c.in-Some.is) c.freed_by_adjust.ensures
