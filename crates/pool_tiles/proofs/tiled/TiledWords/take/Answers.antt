use Rattle.std.proofs.Common.{rules, List, Some, sym, ap, ◌∙◌, subst}
use Rattle.pool_tiles.specs.Headers.{Apart}
use Rattle.pool_tiles.specs.Tiling.{Tile, fit}
use Rattle.pool_tiles.specs.Tiled.{Tiled}
use Rattle.pool_tiles.proofs.Fitting.{fit-none, fit-some, apart-cut}
use Rattle.pool_tiles.proofs.tiled.TiledWords.take.Goals as goal

pub returns-in_err-place-clause-none : goal.returns-in_err-place-clause-none
returns-in_err-place-clause-none c = search (
  rules,
  c.from_residual.ensures,
  ap (λ (t : Tiled). fit c.args.owner c.args.length t.tiles) (sym c.self.view_is) ∙ fit-none c.args.owner c.args.length c.self.inside.tiles.tiles c.in_err-place.ensures.none,
)

pub invariant_of-self : goal.invariant_of-self
invariant_of-self c =
    let x = c.in_ok-place.ensures.found in
    subst Apart (sym (c.cut.ensures.tiles x.earlier x.later x.n x.is))
    (apart-cut c.args.owner c.args.length x.earlier c.in_ok-place.place x.n x.later (subst Apart x.is c.self.invariant))

pub returns-clause-taken : goal.returns-clause-taken
returns-clause-taken c =
    let x = c.in_ok-place.ensures.found in let place = c.in_ok-place.place in let n = c.args.length in let w = c.args.owner in
    ap (λ (t : Tiled). fit w n t.tiles) (sym c.self.view_is) ∙ ap (fit w n) x.is ∙ fit-some w n x.earlier place x.n x.later x.first x.long
    ∙ ap (λ (ts : List Tile). Some (place, ts)) (sym (c.cut.ensures.tiles x.earlier x.later x.n x.is))
