-- The member that is wanted is so far from the newest among the entries that are left.
use Rattle.std.proofs.Common.{◌≡◌, ◌≤◌, length, take, reverse, map}
use Rattle.std.specs.List.{slice_index_or}
use Rattle.ada_meaning.specs.declared.state.Value.TheVariants.{Names, Null}
use Rattle.ada_interpreter.specs.Objects.{all_of, members_among}
use Rattle.ada_interpreter.proofs.objects.member_at.Given as goal

abbrev pub invariant-entries : goal.invariant-entries
invariant-entries l =
    (l.k ≤ length l.entries)
    × (slice_index_or (map Names (members_among (all_of l.objects) l.item (reverse l.entries))) l.fn.i Null ≡ slice_index_or (map Names (members_among (all_of l.objects) l.item (reverse (take l.k l.entries)))) l.left Null)

abbrev pub decreases-entries : goal.decreases-entries
decreases-entries l = l.k
