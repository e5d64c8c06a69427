use Rattle.ada_flow.specs.Flow.{broken_among, uses_in_items}
use Rattle.std.proofs.Common.{[], map}
use Rattle.ada_flow.specs.Told.{broken, target_of, tracks_in}
use Rattle.ada_program.specs.Form.{item_form}
use Rattle.ada_program.specs.ProgramForm.{type_form}
use Rattle.ada_flow.proofs.Moved.{found_next}
use Rattle.ada_flow.proofs.moves.broken_in_items.Goals as goal

pub loop-number-preserved : goal.loop-number-preserved
loop-number-preserved c =
    found_next (map type_form c.args.types.now) (tracks_in c.args.tracks) c.args.spot c.args.holds.now (target_of c.args.target) c.args.items.now c.loop-number.number c.index-items-number.result (broken c.loop-number.found) (broken c.broken_in_item.result) (broken c.leftmost-found.result)
    (broken_among (tracks_in c.args.tracks) c.args.holds.now (uses_in_items (map type_form c.args.types.now) c.args.spot (target_of c.args.target) [] (map item_form c.args.items.now)))
    c.loop-number-test.true c.index-items-number.is c.broken_in_item.ensures c.leftmost-found.ensures c.loop-number.invariant
