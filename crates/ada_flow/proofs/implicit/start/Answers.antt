use Rattle.ada_flow.proofs.implicit.start.Goals as goal

pub returns-in-Default : goal.returns-in-Default
returns-in-Default c = rw (c.in-Default.is, ← c.freed_at_start-freed.ensures) c.forget_freed.ensures
