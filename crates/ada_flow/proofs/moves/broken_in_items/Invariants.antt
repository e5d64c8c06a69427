use Rattle.std.proofs.Common.{◌≡◌, [], take, drop, map}
use Rattle.ada_flow.specs.Flow.{uses_in_items, leftmost, broken_among}
use Rattle.ada_flow.specs.Told.{broken, named_by_items, target_of, tracks_in}
use Rattle.ada_program.specs.Form.{item_form}
use Rattle.ada_program.specs.ProgramForm.{type_form}
use Rattle.ada_flow.proofs.moves.broken_in_items.Given as goal

-- what is found so far, and in what is left behind what is moved so far, is what is found in all
abbrev pub invariant-loop-number : goal.invariant-loop-number
invariant-loop-number l =
    leftmost (broken l.found) (broken_among (tracks_in l.tracks) l.holds (uses_in_items (map type_form l.types) l.spot (target_of l.target) (named_by_items (map item_form (take l.number l.items))) (map item_form (drop l.number l.items))))
    ≡ broken_among (tracks_in l.tracks) l.holds (uses_in_items (map type_form l.types) l.spot (target_of l.target) [] (map item_form l.items))
