-- Entries that are none are added up to the one that is set.
use Rattle.std.proofs.Common.{◌∙◌, ap, Some, arith}
use Rattle.ada_pools.specs.Entries.{updated}
use Rattle.ada_pools.proofs.Tables.{push_none, set_one, set_next}
use Rattle.ada_pools.proofs.entries.set_entry.Goals as goal

pub missing-preserved : goal.missing-preserved
missing-preserved g c = rw c.in_ok-push.ensures.items (push_none c.missing.entries.items ∙ c.missing.invariant)

pub returns-then-number-len-clause-set : goal.returns-then-number-len-clause-set
returns-then-number-len-clause-set g c =
    set_one c.missing.entries.items c.args.number (Some c.args.entry) (omega arith)
    ∙ ap (λ entries. updated entries c.args.number (Some c.args.entry)) c.missing.invariant

pub returns-in_ok-push-2-clause-set : goal.returns-in_ok-push-2-clause-set
returns-in_ok-push-2-clause-set g c =
    rw c.in_ok-push-2.ensures.items
    (set_next c.missing.entries.items c.args.number (Some c.args.entry) (omega arith)
    ∙ ap (λ entries. updated entries c.args.number (Some c.args.entry)) c.missing.invariant)
