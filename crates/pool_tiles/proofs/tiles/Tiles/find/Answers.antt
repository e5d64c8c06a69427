use Rattle.std.proofs.Common.{length, refl, ◌∙◌, arith}
use Rattle.pool_tiles.proofs.Told.{hole_told, shown}
use Rattle.pool_tiles.proofs.Searching.{reached, gone_on, sought_all}
use Rattle.pool_tiles.proofs.tiles.Tiles.find.Goals as goal

pub returns-then-tile_length-wanted-clause-found : goal.returns-then-tile_length-wanted-clause-found
returns-then-tile_length-wanted-clause-found c =
    let words = c.self.inside.words in let first = c.self.inside.first in let t = c.args.self.now in
    let x = reached c.args.wanted t.tiles (length words) c.loop-place.place c.loop-place.invariant (omega arith) in
    let told = hole_told words first x.earlier c.loop-place.place x.n x.later (shown words first t _ c.self.invariant c.self.view_is x.is) in
    let read = told.read in let is = c.tile_length.ensures in
    record { earlier = x.earlier; n = x.n; later = x.later; is = x.is; long = omega arith; first = x.short }

pub part-place-requires : goal.part-place-requires
part-place-requires c =
    let words = c.self.inside.words in let first = c.self.inside.first in let t = c.args.self.now in
    let x = reached c.args.wanted t.tiles (length words) c.loop-place.place c.loop-place.invariant (omega arith) in
    let told = hole_told words first x.earlier c.loop-place.place x.n x.later (shown words first t _ c.self.invariant c.self.view_is x.is) in
    let inside = told.inside in let long = told.long in (omega arith, told.few)

pub loop-place-smaller : goal.loop-place-smaller
loop-place-smaller c =
    let words = c.self.inside.words in let first = c.self.inside.first in let t = c.args.self.now in
    let x = reached c.args.wanted t.tiles (length words) c.loop-place.place c.loop-place.invariant (omega arith) in
    let told = hole_told words first x.earlier c.loop-place.place x.n x.later (shown words first t _ c.self.invariant c.self.view_is x.is) in
    let later = told.next_later in let long = told.long in let next = told.next in let is = c.part-place.ensures in
    let none = c.len-none.ensures in let test = c.loop-place-test.true in omega arith

pub loop-place-preserved : goal.loop-place-preserved
loop-place-preserved c =
    let words = c.self.inside.words in let first = c.self.inside.first in let t = c.args.self.now in
    let x = reached c.args.wanted t.tiles (length words) c.loop-place.place c.loop-place.invariant (omega arith) in
    let told = hole_told words first x.earlier c.loop-place.place x.n x.later (shown words first t _ c.self.invariant c.self.view_is x.is) in
    let read = told.read in let is = c.tile_length.ensures in let short = c.if-tile_length-wanted.false in
    gone_on c.args.wanted t.tiles (length words) c.loop-place.place c.part-place.result x (omega arith) (c.part-place.ensures ∙ told.next)

pub returns-clause-none : goal.returns-clause-none
returns-clause-none c =
    let words = c.self.inside.words in let first = c.self.inside.first in let t = c.args.self.now in
    sought_all c.args.wanted words first t.tiles c.loop-place.place (shown words first t t.tiles c.self.invariant c.self.view_is refl) c.loop-place.invariant (omega arith)
