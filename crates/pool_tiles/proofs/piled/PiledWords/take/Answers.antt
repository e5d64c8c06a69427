use Rattle.std.proofs.Common.{◌+◌, ◌≤◌, length, refl, ap, ◌∙◌, arith, inl, length-set, get_or-set_other, get_or-set_same}
use Rattle.pool_tiles.specs.Headers.{word_at}
use Rattle.pool_tiles.proofs.Piling.{refused_at, Taken, take_told}
use Rattle.pool_tiles.proofs.piled.PiledWords.take.Goals as goal

pub returns-then-length-len-clause-none : goal.returns-then-length-len-clause-none
returns-then-length-len-clause-none c =
    let more = c.if-length-len.true in let len = c.len.ensures in let within = c.self.invariant.within in
    (refused_at c.self.inside.words c.self.inside.cursor c.args.self.now c.args.owner c.args.length c.self.invariant c.self.view_is c.requires.long (omega arith), refl)

done : (c : goal.After-self-1) → Taken c.self.inside.words c.self.inside.cursor c.args.self.now c.args.owner c.args.length c.set.new.self
done c =
    let words = c.self.inside.words in let at = c.self.inside.cursor in let k = c.args.length in
    let less = c.if-length-len.false in let len = c.len.ensures in let within = c.self.invariant.within in let few = c.self.invariant.few in
    let fits : at + k ≤ length words = omega arith in
    let long = c.requires.long in
    let cleared = c.clear.ensures.length in
    let value = c.block_word.ensures in
    take_told words at c.args.owner k c.set.new.self c.self.invariant long c.requires.number fits
    (ap length c.set.ensures ∙ length-set c.clear.new.words at c.block_word.result ∙ cleared)
    (ap (λ ws. word_at ws at) c.set.ensures ∙ get_or-set_same c.clear.new.words at c.block_word.result 0 (omega arith) ∙ value)
    (λ i low high. ap (λ ws. word_at ws i) c.set.ensures ∙ get_or-set_other c.clear.new.words at i c.block_word.result 0 (λ e. absurd (omega arith)) ∙ c.clear.ensures.zero i (omega arith) high)
    (λ i low. ap (λ ws. word_at ws i) c.set.ensures ∙ get_or-set_other c.clear.new.words at i c.block_word.result 0 (λ e. absurd (omega arith)) ∙ c.clear.ensures.others i (inl low))
    c.args.self.now c.self.view_is

pub invariant_of-self : goal.invariant_of-self
invariant_of-self c = (done c).piles

pub returns-clause-taken : goal.returns-clause-taken
returns-clause-taken c = (done c).taken

pub returns-clause-blocks : goal.returns-clause-blocks
returns-clause-blocks c = (done c).blocks

pub returns-clause-room : goal.returns-clause-room
returns-clause-room c = (done c).room

pub returns-clause-fresh : goal.returns-clause-fresh
returns-clause-fresh c = (done c).fresh

pub returns-clause-stay : goal.returns-clause-stay
returns-clause-stay c = (done c).stay

pub returns-clause-zero : goal.returns-clause-zero
returns-clause-zero c = (done c).zero_words

pub returns-clause-kept : goal.returns-clause-kept
returns-clause-kept c = (done c).kept
