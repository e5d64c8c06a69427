use Rattle.std.proofs.Common.{◌≡◌, ◌<◌, refl, arith}
use Rattle.pool_tiles.specs.Tiling.{owner_of}
use Rattle.pool_tiles.specs.Headers.{hole_mark, word_at, tile_at}
use Rattle.pool_tiles.proofs.Closing.{begun, counted, place_low, as_many, there, longer, passed, found, block_here, gone, ended}
use Rattle.pool_tiles.proofs.tiles.Tiles.close.Goals as goal

pub loop-place-init : goal.loop-place-init
loop-place-init c = (
  begun c.args.owner c.self.inside.words c.self.inside.first c.args.self.now c.self.invariant c.self.view_is c.requires,
  counted c.len-none.result c.self.inside.words c.self.inside.first c.args.self.now c.self.invariant c.self.view_is c.len-none.ensures,
)

pub overflow_add-place : goal.overflow_add-place
overflow_add-place c =
    let low = place_low c.args.owner c.args.self.now c.loop-place.self c.loop-place.place c.len-none.result c.loop-place.invariant.0 c.loop-place.invariant.1 in
    let few = c.self.invariant.few in let is = c.len-none.ensures in omega arith

pub place_behind-next-requires : goal.place_behind-next-requires
place_behind-next-requires c =
    let v = c.self-in-loop-place in let w = c.args.owner in let old = c.args.self.now in let now = c.loop-place.self in let place = c.loop-place.place in
    let room = (as_many v.inside.words w old now place v.inside.first c.len-none.result c.loop-place.invariant.0 c.loop-place.invariant.1 v.invariant v.view_is).0 c.loop-place-test.true in
    let x = there v.inside.words w old now place v.inside.first c.loop-place.invariant.0 v.invariant v.view_is room in
    record { earlier = x.earlier; tile = x.tile; later = x.later; is = x.is; at_place = x.at_place }

pub is_block_of-requires : goal.is_block_of-requires
is_block_of-requires c =
    let v = c.self-in-loop-place in let w = c.args.owner in let old = c.args.self.now in let now = c.loop-place.self in let place = c.loop-place.place in
    let room = (as_many v.inside.words w old now place v.inside.first c.len-none.result c.loop-place.invariant.0 c.loop-place.invariant.1 v.invariant v.view_is).0 c.loop-place-test.true in omega arith

pub put_back-requires-clause-block : goal.put_back-requires-clause-block
put_back-requires-clause-block c =
    let v = c.self-in-loop-place in let w = c.args.owner in let old = c.args.self.now in let now = c.loop-place.self in let place = c.loop-place.place in
    let room = (as_many v.inside.words w old now place v.inside.first c.len-none.result c.loop-place.invariant.0 c.loop-place.invariant.1 v.invariant v.view_is).0 c.loop-place-test.true in
    let mine = c.if-is_block_of.ensures.0 refl in
    block_here v.inside.words w now place (found v.inside.words w old now place v.inside.first c.loop-place.invariant.0 v.invariant v.view_is room mine.0 mine.1)

pub loop-place-smaller-then-is_block_of : goal.loop-place-smaller-then-is_block_of
loop-place-smaller-then-is_block_of c =
    let v = c.self-in-loop-place in let w = c.args.owner in let old = c.args.self.now in let now = c.loop-place.self in let place = c.loop-place.place in
    let room = (as_many v.inside.words w old now place v.inside.first c.len-none.result c.loop-place.invariant.0 c.loop-place.invariant.1 v.invariant v.view_is).0 c.loop-place-test.true in
    let more = longer v.inside.words w old now place c.place_behind-next.result v.inside.first c.loop-place.invariant.0 v.invariant v.view_is room c.place_behind-next.ensures in
    let test = c.loop-place-test.true in omega arith

pub loop-place-preserved-then-is_block_of : goal.loop-place-preserved-then-is_block_of
loop-place-preserved-then-is_block_of c =
    let v = c.self-in-loop-place in let w = c.args.owner in let old = c.args.self.now in let now = c.loop-place.self in let place = c.loop-place.place in
    let room = (as_many v.inside.words w old now place v.inside.first c.len-none.result c.loop-place.invariant.0 c.loop-place.invariant.1 v.invariant v.view_is).0 c.loop-place-test.true in
    let mine = c.if-is_block_of.ensures.0 refl in
    let h = found v.inside.words w old now place v.inside.first c.loop-place.invariant.0 v.invariant v.view_is room mine.0 mine.1 in (
      gone v.inside.words w old now c.put_back.new.self place c.place_behind-next.result v.inside.first c.loop-place.invariant.0 v.invariant v.view_is h c.place_behind-next.ensures
          c.put_back.ensures.tiles c.put_back.ensures.objects,
      c.loop-place.invariant.1,
    )

pub loop-place-smaller : goal.loop-place-smaller
loop-place-smaller c =
    let v = c.self-in-loop-place in let w = c.args.owner in let old = c.args.self.now in let now = c.loop-place.self in let place = c.loop-place.place in
    let room = (as_many v.inside.words w old now place v.inside.first c.len-none.result c.loop-place.invariant.0 c.loop-place.invariant.1 v.invariant v.view_is).0 c.loop-place-test.true in
    let more = longer v.inside.words w old now place c.place_behind-next.result v.inside.first c.loop-place.invariant.0 v.invariant v.view_is room c.place_behind-next.ensures in
    let test = c.loop-place-test.true in omega arith

pub loop-place-preserved : goal.loop-place-preserved
loop-place-preserved c =
    let v = c.self-in-loop-place in let w = c.args.owner in let old = c.args.self.now in let now = c.loop-place.self in let place = c.loop-place.place in
    let room = (as_many v.inside.words w old now place v.inside.first c.len-none.result c.loop-place.invariant.0 c.loop-place.invariant.1 v.invariant v.view_is).0 c.loop-place-test.true in
    let no : (word_at v.inside.words place < hole_mark) × (owner_of (tile_at v.inside.words place) ≡ w) → ⊥ = λ x. let e = c.if-is_block_of.ensures.1 x in cc in (
      passed v.inside.words w old now place c.place_behind-next.result v.inside.first c.loop-place.invariant.0 v.invariant v.view_is room c.place_behind-next.ensures no,
      c.loop-place.invariant.1,
    )

pub returns-clause-tiles : goal.returns-clause-tiles
returns-clause-tiles c =
    ended c.args.owner c.args.self.now c.loop-place.self c.loop-place.place c.len-none.result c.loop-place.invariant.0 c.loop-place.invariant.1 c.loop-place-test.false
