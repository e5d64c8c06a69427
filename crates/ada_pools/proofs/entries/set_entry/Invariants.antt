-- No entry is set yet.
use Rattle.std.proofs.Common.{◌≡◌, ◌-◌, length}
use Rattle.ada_pools.specs.Entries.{entries_of}
use Rattle.ada_pools.proofs.entries.set_entry.Given as goal

abbrev pub invariant-missing : goal.invariant-missing
invariant-missing g l = entries_of l.entries.items ≡ entries_of l.initial.entries.items

abbrev pub decreases-missing : goal.decreases-missing
decreases-missing g l = l.number - length l.entries.items
