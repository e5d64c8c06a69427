use Rattle.std.proofs.Common.{◌≡◌, ℕ, ◌<◌, length, List, [], ◌∷◌, replicate, sym, ap, ◌∙◌, subst, arith}
use Rattle.std.proofs.lemmas.List.{length-replicate}
use Rattle.pool_tiles.specs.Headers.{tiles_of, Spells}
use Rattle.pool_tiles.specs.Tiling.{Tile, hole}
use Rattle.pool_tiles.proofs.Reading.{read_back}
use Rattle.pool_tiles.proofs.Pools.{empty_pool, whole_pool, new-empty, new-whole}
use Rattle.pool_tiles.proofs.tiles.Tiles.new.Goals as goal

-- what spells some tiles spells those that are read from it
as_read : (words : List ℕ) (first : ℕ) (ts : List Tile) → Spells words first ts → Spells words first (tiles_of words)
as_read words first ts s = subst (λ us. Spells words first us) (sym (read_back words first ts s)) s

-- the words of the region
count : (words : List ℕ) (n : ℕ) → words ≡ replicate n 0 → length words ≡ n
count words n e = ap length e ∙ length-replicate n 0

pub invariant_of-result : goal.invariant_of-result
invariant_of-result c =
    let ws = c.in_ok-words.words in let few : length ws < 4 = omega arith in
    subst (λ (k : ℕ). Spells ws k (tiles_of ws)) (sym c.len-none.ensures) (as_read ws (length ws) [] (empty_pool ws few))

pub returns-then-none-lt-HEADER : goal.returns-then-none-lt-HEADER
returns-then-none-lt-HEADER c =
    let ws = c.in_ok-words.words in let few : length ws < 4 = omega arith in
    let long = count ws c.args.words c.in_ok-words.ensures in
    read_back ws (length ws) [] (empty_pool ws few) ∙ sym (new-empty c.args.words (omega arith))

-- the pool is one hole
done : (c : goal.After-set_part-2) → Spells c.set_part-2.new.words 0 (hole 0 c.args.words ∷ [])
done c =
    let n = c.len-none.result in let same : n ≡ c.args.words = c.len-none.ensures ∙ count c.in_ok-words.words c.args.words c.in_ok-words.ensures in
    subst (λ (k : ℕ). Spells c.set_part-2.new.words 0 (hole 0 k ∷ [])) same
    (whole_pool n c.in_ok-words.words c.set.new.self c.set_part.new.words c.set_part-2.new.words (c.in_ok-words.ensures ∙ ap (λ (k : ℕ). replicate k 0) (sym same))
    (omega arith) (omega arith) c.set.ensures c.set_part.ensures c.set_part-2.ensures)

pub invariant_of-result-2 : goal.invariant_of-result-2
invariant_of-result-2 c = as_read c.set_part-2.new.words 0 (hole 0 c.args.words ∷ []) (done c)

pub returns : goal.returns
returns c =
    let same : c.len-none.result ≡ c.args.words = c.len-none.ensures ∙ count c.in_ok-words.words c.args.words c.in_ok-words.ensures in
    read_back c.set_part-2.new.words 0 (hole 0 c.args.words ∷ []) (done c) ∙ sym (new-whole c.args.words (omega arith))
