use Rattle.std.proofs.Common.{◌≡◌, ℕ, ◌+◌, ◌≤◌, ◌<◌, length, List, ◌∷◌, ◌++◌, sym, ap, ◌∙◌, arith}
use Rattle.std.specs.Prelude.{nat_lt, if◌then◌else◌}
use Rattle.pool_tiles.specs.Headers.{tiles_of, Spells, first_or, last_or, word_at}
use Rattle.pool_tiles.specs.Tiling.{Tile, hole, block}
use Rattle.pool_tiles.specs.Tiled.{Tiled, SameWords}
use Rattle.pool_tiles.proofs.Written.{length_after}
use Rattle.pool_tiles.proofs.Told.{block_seen, seen, shown, chose_old, chose_new}
use Rattle.pool_tiles.proofs.Stepped.{free_done}
use Rattle.pool_tiles.proofs.Pools.{next_of, previous_room}
use Rattle.pool_tiles.proofs.tiles.Tiles.free.Goals as goal
use Rattle.pool_tiles.proofs.tiles.Tiles.free.Goals.{then-previous-none, else-previous-none, then-previous-none-2, else-previous-none-2}

pub part-next-requires : goal.part-next-requires
part-next-requires c =
    let r = c.requires in let previous_is : c.hole_before-previous.result ≡ last_or (length c.self.inside.words) r.earlier = c.hole_before-previous.ensures r.earlier r.later r.n r.owner r.is ∙ sym (ap (λ (u : Tiled). last_or (length u.words) r.earlier) c.self.view_is) in
    let s = shown c.self.inside.words c.self.inside.first c.args.self.now (r.earlier ++ block c.args.place r.n r.owner ∷ r.later) c.self.invariant c.self.view_is r.is in
    let room = previous_room c.self.inside.words c.self.inside.first r.earlier c.args.place r.n r.owner r.later s c.hole_before-previous.result previous_is (omega arith) in
    (omega arith, c.self.invariant.few)

pub tile_length-length-requires : goal.tile_length-length-requires
tile_length-length-requires c =
    let h = block_seen c.self.inside.words c.self.inside.first c.args.self.now c.args.place c.self.invariant c.self.view_is c.requires in omega arith

pub overflow_add-length : goal.overflow_add-length
overflow_add-length c =
    let h = block_seen c.self.inside.words c.self.inside.first c.args.self.now c.args.place c.self.invariant c.self.view_is c.requires in let is = c.tile_length-length.ensures in let read = h.read in omega arith

pub set-requires : goal.set-requires
set-requires c =
    let h = block_seen c.self.inside.words c.self.inside.first c.args.self.now c.args.place c.self.invariant c.self.view_is c.requires in omega arith

pub set_part-requires : goal.set_part-requires
set_part-requires c =
    let h = block_seen c.self.inside.words c.self.inside.first c.args.self.now c.args.place c.self.invariant c.self.view_is c.requires in let l1 = length_after _ _ _ _ c.set.ensures in (omega arith, omega arith, omega arith)

pub set_part-requires-2 : goal.set_part-requires-2
set_part-requires-2 c =
    let h = block_seen c.self.inside.words c.self.inside.first c.args.self.now c.args.place c.self.invariant c.self.view_is c.requires in let l1 = length_after _ _ _ _ c.set.ensures in let l2 = length_after _ _ _ _ c.set_part.ensures in (omega arith, omega arith, omega arith)

pub set_part-requires-3 : goal.set_part-requires-3
set_part-requires-3 c =
    let r = c.requires in let previous_is : c.hole_before-previous.result ≡ last_or (length c.self.inside.words) r.earlier = c.hole_before-previous.ensures r.earlier r.later r.n r.owner r.is ∙ sym (ap (λ (u : Tiled). last_or (length u.words) r.earlier) c.self.view_is) in
    let h = block_seen c.self.inside.words c.self.inside.first c.args.self.now c.args.place c.self.invariant c.self.view_is c.requires in let l1 = length_after _ _ _ _ c.set.ensures in let l2 = length_after _ _ _ _ c.set_part.ensures in let l3 = length_after _ _ _ _ c.set_part-2.ensures in (omega arith, omega arith, omega arith)

-- what the code takes for the next hole and for the one before are those of the list
links : (words : List ℕ) (first : ℕ) (t : Tiled) (place previous next : ℕ) → Spells words first (tiles_of words) → seen words ≡ t
    → ((a b : List Tile) (n w : ℕ) → t.tiles ≡ a ++ block place n w ∷ b → previous ≡ last_or (length t.words) a)
    → (previous < length words → next ≡ word_at words (previous + 2)) → (length words ≤ previous → next ≡ first)
    → (a : List Tile) (n w : ℕ) (b : List Tile) → t.tiles ≡ a ++ block place n w ∷ b → (next ≡ first_or b (length words)) × (previous ≡ last_or (length words) a)
links words first t place previous next kept view before named front a n w b is =
    let previous_is : previous ≡ last_or (length words) a = before a b n w is ∙ sym (ap (λ (u : Tiled). last_or (length u.words) a) view) in
    (next_of words first a place n w b (shown words first t (a ++ block place n w ∷ b) kept view is) previous next previous_is named front, previous_is)

pub set_part-requires-4 : goal.set_part-requires-4
set_part-requires-4 c =
    let words = c.self.inside.words in let previous = c.hole_before-previous.result in let next = c.if-previous-none.next in
    let named : previous < length words → next ≡ word_at words (previous + 2) =
    elim c.if-previous-none.branch [ then-previous-none w ↦ λ _. w.next-is ∙ w.part-next.ensures | else-previous-none w ↦ λ less. absurd (omega arith) ] in
    let front : length words ≤ previous → next ≡ c.self.inside.first =
    elim c.if-previous-none.branch [ then-previous-none w ↦ λ past. absurd (omega arith) | else-previous-none w ↦ λ _. w.next-is ] in
    let r = c.requires in
    let is = links words c.self.inside.first c.args.self.now c.args.place previous next c.self.invariant c.self.view_is c.hole_before-previous.ensures named front r.earlier r.n r.owner r.later r.is in
    let h = block_seen c.self.inside.words c.self.inside.first c.args.self.now c.args.place c.self.invariant c.self.view_is c.requires in
    let l1 = length_after _ _ _ _ c.set.ensures in let l2 = length_after _ _ _ _ c.set_part.ensures in let l3 = length_after _ _ _ _ c.set_part-2.ensures in let l4 = length_after _ _ _ _ c.set_part-3.ensures in
    let inside = h.next_inside in let next_is = is.0 in (omega arith, omega arith, omega arith)

-- the words that were written spell the block as a hole
done : (c : goal.After-self-1)
    → Spells c.set_part-4.new.words c.if-previous-none-2.self (tiles_of c.set_part-4.new.words)
    × ((a b : List Tile) (n w : ℕ) → c.args.self.now.tiles ≡ a ++ block c.args.place n w ∷ b → tiles_of c.set_part-4.new.words ≡ a ++ hole c.args.place n ∷ b)
    × SameWords (tiles_of c.set_part-4.new.words) c.args.self.now.words c.set_part-4.new.words
done c =
    let words = c.self.inside.words in let previous = c.hole_before-previous.result in let next = c.if-previous-none.next in
    let named : previous < length words → next ≡ word_at words (previous + 2) =
    elim c.if-previous-none.branch [ then-previous-none w ↦ λ _. w.next-is ∙ w.part-next.ensures | else-previous-none w ↦ λ less. absurd (omega arith) ] in
    let front : length words ≤ previous → next ≡ c.self.inside.first =
    elim c.if-previous-none.branch [ then-previous-none w ↦ λ past. absurd (omega arith) | else-previous-none w ↦ λ _. w.next-is ] in
    let first = c.self.inside.first in let place = c.args.place in let n = length words in
    let chosen : c.if-previous-none-2.self ≡ (if nat_lt previous n then first else place) =
    elim c.if-previous-none-2.branch [
      | then-previous-none-2 w ↦ chose_old previous n first place c.if-previous-none-2.self (omega arith) w.self-is
      | else-previous-none-2 w ↦ chose_new previous n first place c.if-previous-none-2.self (omega arith) w.self-is
    ] in
    free_done words first c.args.self.now place c.self.invariant c.self.view_is next previous c.tile_length-length.result c.if-previous-none-2.self
    c.set.new.self c.set_part.new.words c.set_part-2.new.words c.set_part-3.new.words c.set_part-4.new.words c.tile_length-length.ensures
    c.set.ensures c.set_part.ensures c.set_part-2.ensures c.set_part-3.ensures c.set_part-4.ensures chosen
    (links words first c.args.self.now place previous next c.self.invariant c.self.view_is c.hole_before-previous.ensures named front) c.requires

pub invariant_of-self : goal.invariant_of-self
invariant_of-self c = (done c).0

pub returns-clause-tiles : goal.returns-clause-tiles
returns-clause-tiles c = (done c).1

pub returns-clause-objects : goal.returns-clause-objects
returns-clause-objects c = (done c).2
