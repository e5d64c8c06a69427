use Rattle.std.proofs.Common.{◌≡◌, drop, map}
use Rattle.ada_flow.specs.Flow.{moved_by_items, without_values}
use Rattle.ada_program.specs.Form.{item_form}
use Rattle.ada_flow.proofs.moves.lose_items.Given as goal
use Rattle.ada_flow.specs.Told.{tracks_in}

-- what is left loses the rest
abbrev pub invariant-items : goal.invariant-items
invariant-items l =
    without_values (moved_by_items (tracks_in l.tracks) (map item_form (drop l.item-index l.items))) l.known.holds.items ≡ without_values (moved_by_items (tracks_in l.tracks) (map item_form l.items)) l.fn.known.holds.items
