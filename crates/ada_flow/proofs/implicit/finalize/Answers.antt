use Rattle.ada_flow.proofs.implicit.finalize.Goals as goal

pub returns-in-Some : goal.returns-in-Some
returns-in-Some c = rw (c.in-Some.is, ← c.freed_at_end-freed.ensures) c.forget_freed.ensures
