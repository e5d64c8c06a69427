use Rattle.std.proofs.Common.{arith, drop, length-drop, sym, ◌∙◌}
use Rattle.std.proofs.lemmas.List.{take_rest}
use Rattle.std.proofs.lemmas.List.Sums.{prefix_len-le-length}
use Rattle.ada_text.specs.Bytes.{stays_on_line}
use Rattle.ada_text.proofs.GapLemmas.{gap_len-comment, line_stays}
use Rattle.ada_text.proofs.gap.past_gap.Goals as goal

-- a comment stands in the source
pub past-place-requires-clause-more : goal.past-place-requires-clause-more
past-place-requires-clause-more c = let len = rw take_rest at c.line_len.ensures in omega (arith, len, prefix_len-le-length stays_on_line (drop c.loop-place.place.at c.args.source.now), length-drop c.loop-place.place.at c.args.source.now)

pub past-place-requires-clause-on_line : goal.past-place-requires-clause-on_line
past-place-requires-clause-on_line c = line_stays _ _ (rw take_rest at c.line_len.ensures)

pub loop-place-preserved-then-begins_comment : goal.loop-place-preserved-then-begins_comment
loop-place-preserved-then-begins_comment c =
    let gap = gap_len-comment c.args.source.now c.loop-place.place.at c.line_len.result (sym c.begins_comment.ensures ∙ c.if-begins_comment.true) (rw take_rest at c.line_len.ensures) in
    record { ends = rw c.past-place.ensures.at (omega (arith, gap, c.loop-place.invariant.ends)); stands = c.past-place.ensures.stands }
