use Rattle.std.proofs.Common.{[], length, ap, ◌∙◌}
use Rattle.std.proofs.lemmas.List.{length-replicate}
use Rattle.pool_tiles.proofs.Piling.{new_pile, new_tiles, piles_read, stacked_read}
use Rattle.pool_tiles.proofs.piled.PiledWords.new.Goals as goal

pub invariant_of-result : goal.invariant_of-result
invariant_of-result c = let ws = c.in_ok-words.words in
    (piles_read ws 0 [] (new_pile ws c.args.words (ap length c.in_ok-words.ensures ∙ length-replicate c.args.words 0) c.ranges.words.fits)).0

pub returns-clause-tiles : goal.returns-clause-tiles
returns-clause-tiles c = let ws = c.in_ok-words.words in new_tiles ws c.args.words (ap length c.in_ok-words.ensures ∙ length-replicate c.args.words 0) c.ranges.words.fits

pub returns-clause-empty : goal.returns-clause-empty
returns-clause-empty c = let ws = c.in_ok-words.words in
    stacked_read ws 0 [] (new_pile ws c.args.words (ap length c.in_ok-words.ensures ∙ length-replicate c.args.words 0) c.ranges.words.fits)
