use Rattle.std.proofs.Common.{◌≡◌, ℕ, ◌<◌, length, refl, Option, Some, IfSome, sym, ap, ◌∙◌, subst, arith, Contains, ◌≤◌}
use Rattle.pool_kinds.specs.Kinds.{opened_mark, down_from}
use Rattle.pool_kinds.specs.Marked.{MarkedPile}
use Rattle.pool_kinds.specs.declared.kinds.Owner.{Owner}
use Rattle.pool_kinds.proofs.Marks.{opened_is, down_has, down_range}
use Rattle.arrayvec.specs.ArrayVec.{ArrayVec}
use Rattle.pool_kinds.proofs.mark_release.MarkReleasePool.open.Goals as goal
use Rattle.pool_kinds.proofs.mark_release.MarkReleasePool.open.Goals.{in-Ok, in-Err}

pub returns-clause-some : goal.returns-clause-some
returns-clause-some c = elim c.match-try_push.branch [
  | in-Ok w ↦
      let k = length c.self.inside.marks.items in let l = length c.try_push.new.self.items in
      let few : k < 10 = w.in-Ok.ensures.variant.0 refl in
      let more = w.in-Ok.ensures.len in let is = w.len.ensures.value in
      subst (λ (r : Option Owner). IfSome r (λ owner. opened_mark (down_from (length c.args.self.now.marks)) ≡ Some (owner.0, down_from l))) (sym w.result-is)
      (ap (λ (p : MarkedPile). opened_mark (down_from (length p.marks))) (sym c.self.view_is) ∙ opened_is k l few (omega arith) ∙ ap (λ (n : ℕ). Some (n, down_from l)) (sym is))
  | in-Err w ↦ subst (λ (r : Option Owner). IfSome r (λ owner. opened_mark (down_from (length c.args.self.now.marks)) ≡ Some (owner.0, down_from (length c.try_push.new.self.items)))) (sym w.result-is) tt
]

pub returns-clause-is_open : goal.returns-clause-is_open
returns-clause-is_open c = elim c.match-try_push.branch [
  | in-Ok w ↦
      let l = length c.try_push.new.self.items in let more = w.in-Ok.ensures.len in let is = w.len.ensures.value in
      subst (λ (r : Option Owner). IfSome r (λ owner. Contains (down_from l) owner.0)) (sym w.result-is) (subst (Contains (down_from l)) (sym is) (down_has l l (omega arith) (omega arith)))
  | in-Err w ↦ subst (λ (r : Option Owner). IfSome r (λ owner. Contains (down_from (length c.try_push.new.self.items)) owner.0)) (sym w.result-is) tt
]

pub returns-clause-still_open : goal.returns-clause-still_open
returns-clause-still_open c other is_open =
    let k = length c.self.inside.marks.items in let l = length c.try_push.new.self.items in
    let low = down_range k other (subst (λ (p : MarkedPile). Contains (down_from (length p.marks)) other) (sym c.self.view_is) is_open) in
    let more : k ≤ l = elim c.match-try_push.branch [
      | in-Ok w ↦ let len = w.in-Ok.ensures.len in omega arith
      | in-Err w ↦ let same = ap (λ (v : ArrayVec ℕ). length v.items) w.in-Err.ensures.err in omega arith
    ] in
    down_has l other low.0 (omega (arith, low.1, more))
