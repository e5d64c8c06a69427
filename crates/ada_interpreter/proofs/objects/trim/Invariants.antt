-- So far, what is to be taken off is no member.
use Rattle.std.proofs.Common.{◌≡◌, ◌≤◌, length, take, reverse}
use Rattle.ada_interpreter.specs.Objects.{all_of, members_among}
use Rattle.ada_interpreter.proofs.objects.trim.Given as goal

abbrev pub invariant-entries : goal.invariant-entries
invariant-entries l =
    (l.n ≤ length l.entries.items)
    × (members_among (all_of l.objects) l.item (reverse (take l.n l.entries.items)) ≡ members_among (all_of l.objects) l.item (reverse l.entries.items))

abbrev pub decreases-entries : goal.decreases-entries
decreases-entries l = l.n
